-- What is asked for is a frequency from 1 to 4. Assumes nothing.
use Rattle.std.proofs.Common.{◌≡◌, ℕ, ◌≤◌, Bool, true, false, cond, List, Some, None, IfSome, Option, Decides, length, refl, sym, ap, ◌∙◌, length-append, arith}
use Rattle.std.proofs.lemmas.Slice.Eq.{bytes_eq-Decides}
use Rattle.std.specs.Io.KnownBytes.{Consumes}
use Rattle.std.specs.Str.{bytes_eq}
use Rattle.bracket_list.specs.LatticeList.{request, requested_frequency, answered_listing, lattice_listing}

asked : (a b c d : Bool) (n : ℕ) → Some n ≡ cond a (Some 1) (cond b (Some 2) (cond c (Some 3) (cond d (Some 4) None))) → (1 ≤ n) × (n ≤ 4)
asked true b c d n e = let same : n ≡ 1 = cc in (omega arith, omega arith)
asked false true c d n e = let same : n ≡ 2 = cc in (omega arith, omega arith)
asked false false true d n e = let same : n ≡ 3 = cc in (omega arith, omega arith)
asked false false false true n e = let same : n ≡ 4 = cc in (omega arith, omega arith)
asked false false false false n e = cc

-- "N one digit from 1 to 4"
pub requested_range : (input : List ℕ) (n : ℕ) → Some n ≡ requested_frequency input → (1 ≤ n) × (n ≤ 4)
unfolding requested_frequency
requested_range input n e =
    let asks : ℕ → Bool = λ digit. bytes_eq input (request digit) in asked (asks 49) (asks 50) (asks 51) (asks 52) n e

refuted : {P : Type 0} (test : Bool) → Decides test P → ¬ P → test ≡ false
refuted true decides denied = absurd (denied (decides.0 refl))
refuted false decides denied = refl

not_asked : (input : List ℕ) (digit : ℕ) → 13 ≤ length input → bytes_eq input (request digit) ≡ false
not_asked input digit long =
    refuted (bytes_eq input (request digit)) (bytes_eq-Decides input (request digit)) (λ same. let size : length input ≡ 12 = ap length same in absurd (omega arith))

-- A request is twelve bytes.
pub requested-long : (input : List ℕ) → 13 ≤ length input → requested_frequency input ≡ None
unfolding requested_frequency
requested-long input long =
    rw (not_asked input 49 long, not_asked input 50 long, not_asked input 51 long, not_asked input 52 long) refl

-- What is listed for an input's first bytes, thirteen or more, is what is listed for all of it: a refusal.
pub listing-beginning : (input left : Option (List ℕ)) (text lines : List ℕ) → Consumes input left text → 13 ≤ length text → lines ≡ lattice_listing text
    → IfSome input (λ bytes. lines ≡ lattice_listing bytes)
unfolding lattice_listing
listing-beginning None left text lines read long e = tt
listing-beginning (Some bytes) None text lines read long e = absurd read
listing-beginning (Some bytes) (Some rest) text lines read long e =
    let longer : 13 ≤ length bytes = omega (arith, ap length read, length-append text rest) in
    e ∙ ap answered_listing (requested-long text long ∙ sym (requested-long bytes longer))
