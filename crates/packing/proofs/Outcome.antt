-- The outcome of a call by its two cases: `packing_accepted`, `refused`, `one_of_two`. Assumes nothing.
use Rattle.std.proofs.Common.{◌≡◌, ℕ, List, length, ◌⊎◌, inl, inr, refl, ap, ◌∙◌}
use Rattle.std.specs.Float.{Float}
use Rattle.std.specs.Prelude.{Ok, Err}
use Rattle.refusal.specs.declared.Refusal.{Refusal}
use Rattle.refusal.specs.Refusal.{Verdict, answer}
use Rattle.grid.specs.Grid.{Grid}
use Rattle.packing.specs.declared.Taken.{Taken}
use Rattle.packing.specs.declared.LevelRecord.{LevelRecord}
use Rattle.packing.specs.Packing.{packed_words, packed_floats, overwrite_from, level_record, packing_rows, PackOutcome, pack_outcome, pack}

module _ (grid : Grid) (positions : List Float) (taken : Taken) (words : List ℕ) (floats : List Float) where
  abbrev pub rows : Verdict
  rows = packing_rows grid positions taken (length words) (length floats)

  -- what an accepted call leaves
  abbrev pub packed : PackOutcome
  packed = pack_outcome (Ok (level_record grid positions taken)) (overwrite_from taken.words (packed_words grid) words) (overwrite_from taken.floats (packed_floats positions) floats)

  abbrev by_rows : Verdict → PackOutcome
  by_rows v = answer v (λ reason. pack_outcome (Err reason) words floats) packed

  pub packing_accepted : (level : LevelRecord) → (pack grid positions taken words floats).answered ≡ Ok level → (rows ≡ Ok tt) × (pack grid positions taken words floats ≡ packed) × (level_record grid positions taken ≡ level)
  unfolding pack
  packing_accepted level h = go rows refl h
    where
      go : (v : Verdict) → rows ≡ v → (by_rows v).answered ≡ Ok level → (rows ≡ Ok tt) × (by_rows rows ≡ packed) × (level_record grid positions taken ≡ level)
      go (Ok tt) e h = (e, ap by_rows e, cc)
      go (Err reason) e h = absurd (let y : ⊥ = cc in y)

  pub refused : (reason : Refusal) → (pack grid positions taken words floats).answered ≡ Err reason → (rows ≡ Err reason) × (pack grid positions taken words floats ≡ pack_outcome (Err reason) words floats)
  unfolding pack
  refused reason h = go rows refl h
    where
      go : (v : Verdict) → rows ≡ v → (by_rows v).answered ≡ Err reason → (rows ≡ Err reason) × (by_rows rows ≡ pack_outcome (Err reason) words floats)
      go (Ok tt) e h = absurd (let y : ⊥ = cc in y)
      go (Err other) e h = let same : other ≡ reason = cc in (e ∙ ap Err same, ap by_rows e ∙ ap (λ (r : Refusal). pack_outcome (Err r) words floats) same)

  pub one_of_two : ((rows ≡ Ok tt) × (pack grid positions taken words floats ≡ packed)) ⊎ ((reason : Refusal) × (pack grid positions taken words floats ≡ pack_outcome (Err reason) words floats))
  unfolding pack
  one_of_two = go rows refl
    where
      go : (v : Verdict) → rows ≡ v → ((rows ≡ Ok tt) × (by_rows rows ≡ packed)) ⊎ ((reason : Refusal) × (by_rows rows ≡ pack_outcome (Err reason) words floats))
      go (Ok tt) e = inl (e, ap by_rows e)
      go (Err reason) e = inr (reason, ap by_rows e)
