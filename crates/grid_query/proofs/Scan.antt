-- A scan of a cell's candidates: what is left of them gives the nearest of all. It goes by ranks, or by bits where the distances are numbers. Assumes nothing.
use Rattle.std.proofs.Common.{◌≡◌, ℕ, ◌+◌, ◌-◌, ◌^◌, ◌<◌, ◌≤◌, Bool, true, false, cond, ltb, List, [], ◌∷◌, length, get_or, take, drop, sym, refl, ap, subst, ◌∙◌, add-one, arith, drop_of_length-le, le-ltb, lt-ltb, below_more}
use Rattle.std.specs.Prelude.{if◌then◌else◌, Result, Ok, Err}
use lib.Ieee.{Float, binary64, is_nan, nan_bits, of_bits, to_bits}
use lib.Ieee.Bits.{of_bits-to_bits, nan_bits_is}
use Rattle.std.proofs.Math.Seq.{take-length}
use Rattle.sequences.specs.Least.{least}
use Rattle.sequences.proofs.Least.{least_scan}
use Rattle.sequences.proofs.Range.{all_below_intro, all_below_fails}
use Rattle.binary64.specs.TotalOrder.{rank_of}
use Rattle.refusal.specs.declared.Refusal.{Refusal}
use Rattle.refusal.specs.declared.Refusal.TheVariants.{Id}
use Rattle.vector.specs.declared.Vector3.{Vector3}
use Rattle.mesh.specs.Mesh.{vertex_count}
use Rattle.mesh.specs.Rows.{ids_below}
use Rattle.grid_query.specs.declared.Nearest.{Nearest}
use Rattle.grid_query.specs.Nearest.{squared_distance, nearest_of, nearest_found, nearest_in}
use Rattle.grid_query.proofs.Distance.{squared_distance_fits, squared_distance_ranks}

-- what a scan answers, behind row 11
abbrev pub scan_answer : List Float → Vector3 → List ℕ → Result Nearest Refusal
scan_answer positions direction ids = if ids_below (vertex_count positions) ids then Ok (nearest_in positions direction ids) else Err Id

-- the rank of a vertex's squared distance
abbrev pub distance_rank : List Float → Vector3 → ℕ → ℕ
distance_rank positions direction v = rank_of (squared_distance positions direction v)

-- the nearest of the candidates before place i, with its distance and rank
pub record Scanned (positions : List Float) (direction : Vector3) (ids : List ℕ) (i id : ℕ) (distance : Float) (rank : ℕ) : Type 0 where
  pub at_distance : distance ≡ squared_distance positions direction id
  pub ranked : rank ≡ rank_of distance
  pub rest : least (distance_rank positions direction) id (drop i ids) ≡ nearest_of positions direction ids

-- the ids behind the first, as code cuts them off
all_but_first : (x : ℕ) (xs : List ℕ) → take (length (x ∷ xs) - 1) (drop 1 (x ∷ xs)) ≡ xs
all_but_first x xs = (let one_less : length (x ∷ xs) - 1 ≡ length xs = omega arith in ap (λ n. take n xs) one_less) ∙ take-length xs

pub behind_first : (ids : List ℕ) (i : ℕ) → i < length (take (length ids - 1) (drop 1 ids)) → (get_or (take (length ids - 1) (drop 1 ids)) i 0 ≡ get_or ids (i + 1) 0) × (i + 1 < length ids)
behind_first [] i h = absurd (let z : ⊥ = omega arith in z)
behind_first (x ∷ xs) i h =
    let short : i < length xs = subst (λ l. i < length l) (all_but_first x xs) h in
    (ap (λ l. get_or l i 0) (all_but_first x xs) ∙ rw (add-one i) refl, omega arith)

pub all_behind : (ids : List ℕ) (i : ℕ) → length (take (length ids - 1) (drop 1 ids)) ≤ i → length ids ≤ i + 1
all_behind [] i h = omega arith
all_behind (x ∷ xs) i h =
    let k : length xs ≤ i = subst (λ l. length l ≤ i) (all_but_first x xs) h in
    omega arith

module _ (positions : List Float) (direction : Vector3) (ids : List ℕ) where
  -- the first candidate alone
  pub scan_first : (distance : Float) (rank : ℕ) → 0 < length ids → distance ≡ squared_distance positions direction (get_or ids 0 0) → rank ≡ rank_of distance
      → Scanned positions direction ids 1 (get_or ids 0 0) distance rank
  unfolding nearest_of
  scan_first distance rank some d r = record { at_distance = d; ranked = r; rest = all ids some }
    where
      all : (l : List ℕ) → 0 < length l → least (distance_rank positions direction) (get_or l 0 0) (drop 1 l) ≡ nearest_of positions direction l
      all [] h = absurd (let z : ⊥ = omega arith in z)
      all (x ∷ xs) h = refl

  module _ (i id : ℕ) (distance next-distance : Float) (rank next-rank : ℕ) (scanned : Scanned positions direction ids i id distance rank) (inside : i < length ids)
      (d : next-distance ≡ squared_distance positions direction (get_or ids i 0)) (r : next-rank ≡ rank_of next-distance) where
    step : (b : Bool) → ltb next-rank rank ≡ b → least (distance_rank positions direction) (cond b (get_or ids i 0) id) (drop (i + 1) ids) ≡ nearest_of positions direction ids
    step b e =
        let test : ltb (distance_rank positions direction (get_or ids i 0)) (distance_rank positions direction id) ≡ b = rw (← d, ← scanned.at_distance, ← r, ← scanned.ranked) e in
        rw (add-one i) (rw test at (sym (least_scan (distance_rank positions direction) id ids i 0 inside) ∙ scanned.rest))

    pub scan_nearer : next-rank < rank → Scanned positions direction ids (i + 1) (get_or ids i 0) next-distance next-rank
    scan_nearer l = record { at_distance = d; ranked = r; rest = step true (lt-ltb next-rank rank l) }

    pub scan_farther : rank ≤ next-rank → Scanned positions direction ids (i + 1) id distance rank
    scan_farther l = record { at_distance = scanned.at_distance; ranked = scanned.ranked; rest = step false (le-ltb next-rank rank l) }

  pub scan_foreign : ids_below (vertex_count positions) ids ≡ false → Err Id ≡ scan_answer positions direction ids
  scan_foreign foreign = rw foreign refl

  pub scan_end : (i id : ℕ) (distance : Float) (rank : ℕ) → Scanned positions direction ids i id distance rank → length ids ≤ i → ids_below (vertex_count positions) ids ≡ true
      → Ok (nearest_found id distance (length ids)) ≡ scan_answer positions direction ids
  unfolding nearest_in least
  scan_end i id distance rank s all below =
      let nearest : id ≡ nearest_of positions direction ids = rw (drop_of_length-le ids {i = i} all) at s.rest in
      rw (below, ← nearest, s.at_distance) refl

-- ---- by the bits of distances that are numbers, each id tested as it is read
-- what is scanned before place i, where each of it is a vertex: the least bits are those of the nearest one's distance, which is a number
pub record Read (positions : List Float) (direction : Vector3) (ids : List ℕ) (i id bits : ℕ) : Type 0 where
  pub scanned : Scanned positions direction ids i id (squared_distance positions direction id) (rank_of (squared_distance positions direction id))
  pub number : is_nan (squared_distance positions direction id) ≡ false
  pub of_nearest : bits ≡ to_bits binary64 (squared_distance positions direction id)
  pub vertices : (k : ℕ) → k < i → get_or ids k 0 < vertex_count positions

module _ (positions : List Float) (direction : Vector3) (ids : List ℕ) where
  -- the scan ends at an id that is no vertex's
  pub read_foreign : (i : ℕ) → i < length ids → vertex_count positions ≤ get_or ids i 0 → Err Id ≡ scan_answer positions direction ids
  unfolding ids_below
  read_foreign i inside foreign = scan_foreign positions direction ids (all_below_fails (λ k. ltb (get_or ids k 0) (vertex_count positions)) (length ids) i inside (le-ltb (get_or ids i 0) (vertex_count positions) foreign))

  pub read_first : (bits : ℕ) → 0 < length ids → get_or ids 0 0 < vertex_count positions → is_nan (squared_distance positions direction (get_or ids 0 0)) ≡ false → bits ≡ to_bits binary64 (squared_distance positions direction (get_or ids 0 0))
      → Read positions direction ids 1 (get_or ids 0 0) bits
  read_first bits some vertex n b = record {
    scanned = scan_first positions direction ids (squared_distance positions direction (get_or ids 0 0)) (rank_of (squared_distance positions direction (get_or ids 0 0))) some refl refl;
    number = n;
    of_nearest = b;
    vertices = λ k h. let first : k ≡ 0 = omega arith in rw first vertex;
  }

  module _ (i id bits next-bits : ℕ) (so_far : Read positions direction ids i id bits) (inside : i < length ids) (vertex : get_or ids i 0 < vertex_count positions)
      (next-number : is_nan (squared_distance positions direction (get_or ids i 0)) ≡ false) (b : next-bits ≡ to_bits binary64 (squared_distance positions direction (get_or ids i 0))) where
    distance : Float
    distance = squared_distance positions direction id

    next-distance : Float
    next-distance = squared_distance positions direction (get_or ids i 0)

    ranked : rank_of distance ≡ 2 ^ 63 + bits
    unfolding distance
    ranked = rw so_far.of_nearest (squared_distance_ranks positions direction id so_far.number)

    next-ranked : rank_of next-distance ≡ 2 ^ 63 + next-bits
    unfolding next-distance
    next-ranked = rw b (squared_distance_ranks positions direction (get_or ids i 0) next-number)

    pub read_nearer : next-bits < bits → Read positions direction ids (i + 1) (get_or ids i 0) next-bits
    unfolding distance next-distance
    read_nearer l = record {
      scanned = scan_nearer positions direction ids i id distance next-distance (rank_of distance) (rank_of next-distance) so_far.scanned inside refl refl (omega (arith, ranked, next-ranked));
      number = next-number;
      of_nearest = b;
      vertices = below_more _ i so_far.vertices vertex;
    }

    pub read_farther : bits ≤ next-bits → Read positions direction ids (i + 1) id bits
    unfolding distance next-distance
    read_farther l = record {
      scanned = scan_farther positions direction ids i id distance next-distance (rank_of distance) (rank_of next-distance) so_far.scanned inside refl refl (omega (arith, ranked, next-ranked));
      number = so_far.number;
      of_nearest = so_far.of_nearest;
      vertices = below_more _ i so_far.vertices vertex;
    }

  module _ (i id bits : ℕ) (so_far : Read positions direction ids i id bits) where
    distance_again : of_bits binary64 bits ≡ squared_distance positions direction id
    distance_again = ap (of_bits binary64) so_far.of_nearest ∙ of_bits-to_bits binary64 (squared_distance positions direction id) (squared_distance_fits positions direction id)

    pub read_number : nan_bits binary64 bits ≡ false
    read_number = nan_bits_is binary64 bits ∙ ap is_nan distance_again ∙ so_far.number

    pub read_end : length ids ≤ i → Ok (nearest_found id (of_bits binary64 bits) (length ids)) ≡ scan_answer positions direction ids
    unfolding ids_below
    read_end all =
        rw distance_again
        (scan_end positions direction ids i id (squared_distance positions direction id) (rank_of (squared_distance positions direction id)) so_far.scanned all
        (all_below_intro (λ k. ltb (get_or ids k 0) (vertex_count positions)) (length ids) (λ k h. lt-ltb (get_or ids k 0) (vertex_count positions) (so_far.vertices k (omega arith)))))
