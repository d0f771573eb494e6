-- Laws of row 1: by its two ends, and by what `Frequency::new` answers. Assumes nothing.
use Prim.Native.Nat.{ℕ, ◌≤◌}
use mathlib.Core.Path.{◌≡◌, refl, ap}
use mathlib.Core.Bool.{Bool, true, false, cond}
use borrow.Author.Tests.{le-leb}
use Rattle.std.specs.Prelude.{Result, Ok, Err}
use Rattle.refusal.specs.declared.Refusal.{Refusal}
use Rattle.refusal.specs.declared.Refusal.TheVariants as refusal
use Rattle.icosahedron.specs.Frequency.{frequency_of}
use Rattle.icosahedron.specs.Slots.{greatest_frequency, frequency_fits}

pub frequency_fits_lem : (n : ℕ) → 1 ≤ n → n ≤ greatest_frequency → frequency_fits n ≡ true
unfolding frequency_fits
frequency_fits_lem n low high = rw (le-leb 1 n low, le-leb n greatest_frequency high) refl

-- what a call knows where `Frequency::new` passed the number m, and where it refused it
number_in : Result ℕ Refusal → ℕ
number_in (Ok n) = n
number_in (Err reason) = 0

reason_in : Result ℕ Refusal → Refusal
reason_in (Ok n) = refusal.Frequency
reason_in (Err reason) = reason

pub frequency_passed : (m n : ℕ) → ◌≡◌ {A = Result ℕ Refusal} (Ok n) (frequency_of m) → (n ≡ m) × (frequency_fits m ≡ true)
unfolding number_in
frequency_passed m n h = go (frequency_fits m) h
  where
    go : (b : Bool) → ◌≡◌ {A = Result ℕ Refusal} (Ok n) (cond b (Ok m) (Err refusal.Frequency)) → (n ≡ m) × (b ≡ true)
    go true e = (ap number_in e, refl)
    go false e = absurd (let z : ⊥ = cc in z)

pub frequency_refused : (m : ℕ) (reason : Refusal) → ◌≡◌ {A = Result ℕ Refusal} (Err reason) (frequency_of m) → (reason ≡ refusal.Frequency) × (frequency_fits m ≡ false)
unfolding reason_in
frequency_refused m reason h = go (frequency_fits m) h
  where
    go : (b : Bool) → ◌≡◌ {A = Result ℕ Refusal} (Err reason) (cond b (Ok m) (Err refusal.Frequency)) → (reason ≡ refusal.Frequency) × (b ≡ false)
    go true e = absurd (let z : ⊥ = cc in z)
    go false e = (ap reason_in e, refl)
