-- Worked cases of this crate's definitions. Definitions only.
use Rattle.std.specs.Prelude.{◌≡◌, ℕ, ◌%◌, ◌==◌, true, false, List, [], ◌∷◌, slice_index_or}
use Rattle.sequences.specs.Tabulate.{overwrite}
use Rattle.sequences.specs.Starts.{concatenate, starts_of, part}
use Rattle.sequences.specs.Permutation.{is_permutation, inverse, compose, moved_blocks, moved_pairs}
use Rattle.sequences.specs.Ascending.{insert_new, sort}
use Rattle.sequences.specs.Filter.{filter_range}
use Rattle.sequences.specs.Least.{least}
use Rattle.sequences.specs.Slabs.{map_slabs}

-- three lists, the second empty
abbrev pub three_lists : ℕ → List ℕ
three_lists v = slice_index_or ((7 ∷ 8 ∷ []) ∷ [] ∷ (9 ∷ []) ∷ []) v []

-- the new id at each old one: 0 goes to 2, 1 to 0, 2 to 1
abbrev pub turn : List ℕ
turn = 2 ∷ 0 ∷ 1 ∷ []

pub record WorkedLists : Type 0 where
  pub starts_case : starts_of 3 three_lists ≡ 0 ∷ 2 ∷ 2 ∷ 3 ∷ []
  pub entries_case : concatenate 3 three_lists ≡ 7 ∷ 8 ∷ 9 ∷ []
  pub part_case : part {A = ℕ} (0 ∷ 2 ∷ 2 ∷ 3 ∷ []) (7 ∷ 8 ∷ 9 ∷ []) 2 ≡ 9 ∷ []
  pub permutation_case : is_permutation 3 turn ≡ true
  pub repeat_case : is_permutation 3 (2 ∷ 0 ∷ 2 ∷ []) ≡ false
  pub inverse_case : inverse turn ≡ 1 ∷ 2 ∷ 0 ∷ []
  -- twice round
  pub compose_case : compose turn turn ≡ 1 ∷ 2 ∷ 0 ∷ []
  -- blocks of two: block 0 goes to 2, 1 to 0, 2 to 1
  pub moved_blocks_case : moved_blocks {A = ℕ} 2 turn (10 ∷ 11 ∷ 20 ∷ 21 ∷ 30 ∷ 31 ∷ []) 0 ≡ 20 ∷ 21 ∷ 30 ∷ 31 ∷ 10 ∷ 11 ∷ []
  -- pairs of two ids that change places: both indices move
  pub moved_pairs_case : moved_pairs {A = ℕ} (1 ∷ 0 ∷ []) (1 ∷ 2 ∷ 3 ∷ 4 ∷ []) 0 ≡ 4 ∷ 3 ∷ 2 ∷ 1 ∷ []
  -- two slabs of two, each turned round, and a tail
  pub slabs_case : map_slabs {A = ℕ} 2 (λ b. slice_index_or b 1 0 ∷ slice_index_or b 0 0 ∷ []) (1 ∷ 2 ∷ 3 ∷ 4 ∷ 5 ∷ []) 0 ≡ 2 ∷ 1 ∷ 4 ∷ 3 ∷ 5 ∷ []
  pub surplus_case : overwrite {A = ℕ} (1 ∷ 2 ∷ []) (7 ∷ 8 ∷ 9 ∷ []) ≡ 1 ∷ 2 ∷ 9 ∷ []
  -- equal numbers stay side by side; in a set they are one
  pub sort_case : sort (3 ∷ 1 ∷ 3 ∷ 2 ∷ []) ≡ 1 ∷ 2 ∷ 3 ∷ 3 ∷ []
  pub insert_new_case : insert_new 3 (1 ∷ 3 ∷ 4 ∷ []) ≡ 1 ∷ 3 ∷ 4 ∷ []
  pub filter_range_case : filter_range (λ i. i % 2 == 1) 6 ≡ 1 ∷ 3 ∷ 5 ∷ []
  -- the keys are 5, 3, 3: the first of the two least
  pub least_case : least {A = ℕ} (λ i. slice_index_or (5 ∷ 3 ∷ 3 ∷ []) i 0) 0 (1 ∷ 2 ∷ []) ≡ 1
