-- `round` of a fraction by the place x of its leading bit; and that a number which is sticky-equivalent to the fraction, at a unit at least `prec` bits below its leading one, rounds as the fraction does.
-- Over any format. Assumes nothing.
use mathlib.Core.Path.{◌≡◌, sym, ap, ◌∙◌, subst}
use Prim.Native.Nat.{ℕ, suc, zero-le, ◌+◌, ◌-◌, ◌*◌, ◌/◌, ◌^◌, ◌≤◌, ◌<◌}
use native.Mathlib.Nat.{le_trans, le_of_eq, sub-add_cancel, lt_irrefl, lt_of_lt_of_le, lt_of_le_of_lt, lt_of_not-le, le_of_suc-le-suc, le_antisymm, mul_comm, mul_assoc, mul_left_comm, mul_right_comm, mul-le-mul_right, mul-lt-mul_of_pos_right, mul-pos, le-div_iff_mul-le, div-lt_iff_lt-mul, div-eq_of_lt, le_of_mul-le-mul_right, lt_of_mul-lt-mul_right}
use native.Mathlib.Omega.{arith}
use mathlib.Core.Bool.{Bool, true, false, not}
use lib.Dec.{T, leb, leb→le, nleb→lt, lit<}
use lib.Pow.{pow-add, pow_pos, pow_mono, pow-lt}
use lib.Ieee.{Format, prec, low, size, units, round}
use lib.Ieee.Digits.{size-lt, size-le, size_reaches}
use lib.Ieee.Fits.{round_is}
use lib.Ieee.Nearest.{closest, closest_same}
use Rattle.words.specs.Sticky.{StickyEquivalent}
use Rattle.words.proofs.StickyShift.{sticky_rescale}
use Rattle.rounding.proofs.Nearest.{closest_sticky}

pub pow_lt_back : (i p : ℕ) → 2 ^ i < 2 ^ p → i < p
pow_lt_back i p h = lt_of_not-le (λ (g : p ≤ i). lt_irrefl (2 ^ i) (lt_of_lt_of_le h (pow_mono g)))

pub pow_le_back : (i p : ℕ) → 2 ^ i ≤ 2 ^ p → i ≤ p
pow_le_back i p h = le_of_suc-le-suc (lt_of_not-le (λ (g : suc p ≤ i). lt_irrefl (2 ^ p) (lt_of_lt_of_le (pow-lt g) h)))

pub size_exact : (a n : ℕ) → 2 ^ a ≤ n → n < 2 ^ suc a → size n ≡ suc a
size_exact a n lo hi = le_antisymm (size-le n (suc a) hi) (pow_lt_back a (size n) (lt_of_le_of_lt lo (size-lt n)))

-- ---- by the place of the leading bit

-- how many bits the whole part of n / den has, where the leading bit of n * 2 ^ b / den stands at x
size_at : (n den x b : ℕ) → 0 < den → 2 ^ x * den ≤ n * 2 ^ b → n * 2 ^ b < 2 ^ suc x * den → size (n / den) ≡ suc x - b
size_at n den x b D lo hi = go (leb b x) (leb→le b x) (nleb→lt b x)
  where
    go : (t : Bool) → (T t → b ≤ x) → (T (not t) → x < b) → size (n / den) ≡ suc x - b
    go true h k =
        let l = h tt in
        let e : 2 ^ x ≡ 2 ^ (x - b) * 2 ^ b = ap (λ (z : ℕ). 2 ^ z) (sym (sub-add_cancel l)) ∙ pow-add 2 (x - b) b in
        let e-next : 2 ^ suc x ≡ 2 ^ suc (x - b) * 2 ^ b = ap (λ (z : ℕ). 2 ^ z) (split_next x b l) ∙ pow-add 2 (suc (x - b)) b in
        let n-ge : 2 ^ (x - b) * den ≤ n =
        le_of_mul-le-mul_right (le_trans (le_of_eq (mul_right_comm (2 ^ (x - b)) den (2 ^ b) ∙ ap (λ (z : ℕ). z * den) (sym e))) lo) (pow_pos b) in
        let n-lt : n < 2 ^ suc (x - b) * den =
        lt_of_mul-lt-mul_right (2 ^ b) (lt_of_lt_of_le hi (le_of_eq (ap (λ (z : ℕ). z * den) e-next ∙ mul_right_comm (2 ^ suc (x - b)) (2 ^ b) den))) in
        size_exact (x - b) (n / den) ((le-div_iff_mul-le D).1 n-ge) ((div-lt_iff_lt-mul D).1 n-lt) ∙ up x b l
      where
        split_next : (x b : ℕ) → b ≤ x → suc x ≡ suc (x - b) + b
        split_next x b l = omega arith

        up : (x b : ℕ) → b ≤ x → suc (x - b) ≡ suc x - b
        up x b l = omega arith
    go false h k =
        let less : n < den = lt_of_mul-lt-mul_right (2 ^ b) (lt_of_lt_of_le hi (le_trans (mul-le-mul_right den (pow_mono (k tt))) (le_of_eq (mul_comm (2 ^ b) den)))) in
        le_antisymm
        (le_trans (size-le (n / den) 0 (lt_of_le_of_lt (le_of_eq (div-eq_of_lt less)) (pow_pos 0))) (none x b))
        (le_trans (le_of_eq (all x b (k tt))) zero-le)
      where
        none : (x b : ℕ) → 0 ≤ suc x - b
        none x b = omega arith

        all : (x b : ℕ) → x < b → suc x - b ≡ 0
        all x b l = omega arith

-- how many bits `round` drops above the format's smallest value
abbrev pub dropped : Format → ℕ → ℕ → ℕ
dropped f x b = suc x - b - prec f

round_at : (f : Format) (s : Bool) (num den x b : ℕ) → 0 < den → 2 ^ x * den ≤ num * 2 ^ (low f + b) → num * 2 ^ (low f + b) < 2 ^ suc x * den
    → round f s num den ≡ units f s (closest (num * 2 ^ (low f + b)) (den * 2 ^ (b + dropped f x b))) (dropped f x b)
round_at f s num den x b D lo hi =
    let n = num * 2 ^ low f in
    let k = dropped f x b in
    let e : num * 2 ^ (low f + b) ≡ n * 2 ^ b = ap (λ (z : ℕ). num * z) (pow-add 2 (low f) b) ∙ sym (mul_assoc num (2 ^ low f) (2 ^ b)) in
    let z : size (n / den) ≡ suc x - b = size_at n den x b D (le_trans lo (le_of_eq e)) (lt_of_le_of_lt (le_of_eq (sym e)) hi) in
    let cross : n * (den * 2 ^ (b + k)) ≡ n * 2 ^ b * (den * 2 ^ k) = ap (λ (y : ℕ). n * (den * y)) (pow-add 2 b k) ∙ simp (mul_assoc, mul_comm, mul_left_comm) in
    round_is f s num den
    ∙ ap (λ (y : ℕ). units f s (closest n (den * 2 ^ (y - prec f))) (y - prec f)) z
    ∙ ap (λ (y : ℕ). units f s y k) (closest_same n (den * 2 ^ k) (n * 2 ^ b) (den * 2 ^ (b + k)) (mul-pos D (pow_pos k)) (mul-pos D (pow_pos (b + k))) cross)
    ∙ ap (λ (y : ℕ). units f s (closest y (den * 2 ^ (b + k))) k) (sym e)

-- a whole number t, in units of 2 ^ -(low + b)
pub round_whole_at : (f : Format) (s : Bool) (t x b : ℕ) → 2 ^ x ≤ t → t < 2 ^ suc x → round f s t (2 ^ (low f + b)) ≡ units f s (closest t (2 ^ (b + dropped f x b))) (dropped f x b)
round_whole_at f s t x b lo hi =
    let w = 2 ^ (low f + b) in
    let k = dropped f x b in
    let W : 0 < w = pow_pos (low f + b) in
    round_at f s t w x b W (mul-le-mul_right w lo) (mul-lt-mul_of_pos_right hi W)
    ∙ ap (λ (y : ℕ). units f s y k) (closest_same (t * w) (w * 2 ^ (b + k)) t (2 ^ (b + k)) (mul-pos W (pow_pos (b + k))) (pow_pos (b + k)) (mul_assoc t w (2 ^ (b + k))))

-- ---- sticky-equivalent numbers
half_unit : (x b p γ : ℕ) → γ + p ≤ x → b + (suc x - b - p) ≡ γ + (b + (suc x - b - p) - γ - 1 + 1)
half_unit x b p γ h = omega arith

above_unit : (x p γ : ℕ) → γ + p ≤ x → x ≡ x - γ + γ
above_unit x p γ h = omega arith

above_unit_next : (x p γ : ℕ) → γ + p ≤ x → suc x ≡ suc x - γ + γ
above_unit_next x p γ h = omega arith

-- the fraction's leading bit stands where the number's does
leading_ge : (γ d n t x y : ℕ) → 0 < d → n / (d * 2 ^ γ) ≡ t / 2 ^ γ → x ≡ y + γ → 2 ^ x ≤ t → 2 ^ x * d ≤ n
leading_ge γ d n t x y D e r h =
    let p : 2 ^ y * 2 ^ γ ≤ t = le_trans (le_of_eq (sym (ap (λ (z : ℕ). 2 ^ z) r ∙ pow-add 2 y γ))) h in
    let q : 2 ^ y ≤ n / (d * 2 ^ γ) = le_trans ((le-div_iff_mul-le (pow_pos γ)).1 p) (le_of_eq (sym e)) in
    le_trans (le_of_eq (ap (λ (z : ℕ). z * d) (ap (λ (z : ℕ). 2 ^ z) r ∙ pow-add 2 y γ) ∙ mul_assoc (2 ^ y) (2 ^ γ) d ∙ ap (λ (z : ℕ). 2 ^ y * z) (mul_comm (2 ^ γ) d)))
    ((le-div_iff_mul-le (mul-pos D (pow_pos γ))).0 q)

leading_lt : (γ d n t x y : ℕ) → 0 < d → n / (d * 2 ^ γ) ≡ t / 2 ^ γ → x ≡ y + γ → t < 2 ^ x → n < 2 ^ x * d
leading_lt γ d n t x y D e r h =
    let p : t < 2 ^ y * 2 ^ γ = lt_of_lt_of_le h (le_of_eq (ap (λ (z : ℕ). 2 ^ z) r ∙ pow-add 2 y γ)) in
    let q : n / (d * 2 ^ γ) < 2 ^ y = lt_of_le_of_lt (le_of_eq e) ((div-lt_iff_lt-mul (pow_pos γ)).1 p) in
    lt_of_lt_of_le ((div-lt_iff_lt-mul (mul-pos D (pow_pos γ))).0 q)
    (le_of_eq (ap (λ (z : ℕ). 2 ^ y * z) (mul_comm d (2 ^ γ)) ∙ sym (mul_assoc (2 ^ y) (2 ^ γ) d) ∙ ap (λ (z : ℕ). z * d) (sym (ap (λ (z : ℕ). 2 ^ z) r ∙ pow-add 2 y γ))))

leading_place : (t g : ℕ) → 2 ^ g ≤ t → (x : ℕ) × (g ≤ x) × (2 ^ x ≤ t) × (t < 2 ^ suc x)
leading_place t g h =
    let z = size t in
    let Z : g < z = pow_lt_back g z (lt_of_le_of_lt h (size-lt t)) in
    (z - 1, below z g Z, size_reaches t (z - 1) (one_less z g Z), subst (λ (y : ℕ). t < 2 ^ y) (back_up z g Z) (size-lt t))
  where
    below : (z g : ℕ) → g < z → g ≤ z - 1
    below z g h = omega arith

    one_less : (z g : ℕ) → g < z → z - 1 < z
    one_less z g h = omega arith

    back_up : (z g : ℕ) → g < z → z ≡ suc (z - 1)
    back_up z g h = omega arith

-- num / den and t / 2 ^ (low + b) round to the same value, if they are sticky-equivalent at a unit of 2 ^ γ and t has more than prec bits from that unit up
pub round_sticky : (f : Format) (s : Bool) (num den t γ b : ℕ) → 0 < den → StickyEquivalent (2 ^ γ) den (num * 2 ^ (low f + b)) t → 2 ^ (γ + prec f) ≤ t
    → round f s num den ≡ round f s t (2 ^ (low f + b))
round_sticky f s num den t γ b D sticky h =
    let top = leading_place t (γ + prec f) h in
    let x = top.0 in
    let n = num * 2 ^ (low f + b) in
    let k = dropped f x b in
    let c = 2 ^ (b + k - γ - 1) in
    let g = 2 ^ γ in
    let u : 2 ^ (b + k) ≡ g * (c * 2) =
    ap (λ (z : ℕ). 2 ^ z) (half_unit x b (prec f) γ top.1) ∙ pow-add 2 γ (b + k - γ - 1 + 1) ∙ ap (λ (z : ℕ). g * z) (pow-add 2 (b + k - γ - 1) 1) in
    let lo : 2 ^ x * den ≤ n = leading_ge γ den n t x (x - γ) D sticky.quotient (above_unit x (prec f) γ top.1) top.2 in
    let hi : n < 2 ^ suc x * den = leading_lt γ den n t (suc x) (suc x - γ) D sticky.quotient (above_unit_next x (prec f) γ top.1) top.3 in
    round_at f s num den x b D lo hi
    ∙ ap (λ (z : ℕ). units f s (closest n z) k) (ap (λ (z : ℕ). den * z) u ∙ sym (mul_assoc den g (c * 2)))
    ∙ ap (λ (z : ℕ). units f s z k) (closest_sticky g c den n t (pow_pos γ) (pow_pos (b + k - γ - 1)) D sticky)
    ∙ ap (λ (z : ℕ). units f s (closest t z) k) (sym u)
    ∙ sym (round_whole_at f s t x b top.2 top.3)

-- As a program has it: t is n shifted right by j with a sticky bit, and more than prec bits are left.
pub round_shifted : (f : Format) (s : Bool) (n t j e b : ℕ) → StickyEquivalent 2 (2 ^ j) n t → 2 ^ suc (prec f) ≤ t
    → round f s (n * 2 ^ e) (2 ^ (low f + b)) ≡ round f s (t * 2 ^ (e + j)) (2 ^ (low f + b))
round_shifted f s n t j e b sticky big =
    let c = e + j in
    let S = 2 ^ (low f + b) in
    let h : t * 2 ^ (c + 1) ≡ t * 2 ^ c * 2 = ap (λ (z : ℕ). t * z) (pow-add 2 c 1) ∙ sym (mul_assoc t (2 ^ c) 2) in
    let g : n * (S * 2 ^ (c + 1)) ≡ n * 2 ^ e * S * (2 ^ j * 2) =
    ap (λ (z : ℕ). n * (S * z)) (pow-add 2 c 1 ∙ ap (λ (z : ℕ). z * 2) (pow-add 2 e j))
    ∙ shuffle n S (2 ^ e) (2 ^ j) in
    round_sticky f s (n * 2 ^ e) S (t * 2 ^ c) (c + 1) b (pow_pos (low f + b))
    (sticky_rescale 2 (2 ^ j) n t (2 ^ (c + 1)) S (n * 2 ^ e * S) (t * 2 ^ c) (lit< tt) (pow_pos j) (pow_pos (c + 1)) (pow_pos (low f + b)) g h sticky)
    (le_trans (le_of_eq (ap (λ (z : ℕ). 2 ^ z) (places c (prec f)) ∙ pow-add 2 (suc (prec f)) c)) (mul-le-mul_right (2 ^ c) big))
  where
    places : (c p : ℕ) → c + 1 + p ≡ suc p + c
    places c p = omega arith

    shuffle : (n b e j : ℕ) → n * (b * (e * j * 2)) ≡ n * e * b * (j * 2)
    shuffle n b e j = simp (mul_assoc, mul_comm, mul_left_comm)
