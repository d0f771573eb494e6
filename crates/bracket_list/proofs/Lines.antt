-- Laws of the lines: each as its pieces, one behind another, and its length. Assumes nothing.
use Prim.Native.Nat.{ℕ, suc, ◌+◌, ◌≤◌, ◌<◌}
use native.Mathlib.Omega.{arith}
use mathlib.Core.Path.{◌≡◌, refl, sym, ap, ◌∙◌}
use mathlib.Core.List.{List, [], ◌∷◌, ◌++◌, append_assoc}
use lib.ListN.{length, length-append}
use Rattle.sequences.specs.Starts.{concatenate}
use Rattle.sequences.proofs.Starts.{concatenate_suc, length_concatenate, start_monotone}
use Rattle.bracket_list.specs.Text.{space, opening, closing, line_feed, spaced, decimal, bracketed, field, line}
use Rattle.bracket_list.specs.LatticeList.{lattice_word, frequency_word, vertices_word, entries_word, head_line, vertex_line, vertex_lines, walk_line, listing}

-- "(v ", " (", "))" and a line feed
abbrev pub vertex_start : List ℕ
vertex_start = 40 ∷ 118 ∷ 32 ∷ []

abbrev pub list_start : List ℕ
list_start = 32 ∷ 40 ∷ []

abbrev pub line_closing : List ℕ
line_closing = 41 ∷ 41 ∷ 10 ∷ []

-- "(walk ("
abbrev pub walk_start : List ℕ
walk_start = 40 ∷ 119 ∷ 97 ∷ 108 ∷ 107 ∷ 32 ∷ 40 ∷ []

-- "(lattice (frequency ", ") (vertices ", ") (entries "
abbrev pub head_start : List ℕ
head_start = 40 ∷ 108 ∷ 97 ∷ 116 ∷ 116 ∷ 105 ∷ 99 ∷ 101 ∷ 32 ∷ 40 ∷ 102 ∷ 114 ∷ 101 ∷ 113 ∷ 117 ∷ 101 ∷ 110 ∷ 99 ∷ 121 ∷ 32 ∷ []

abbrev pub head_vertices : List ℕ
head_vertices = 41 ∷ 32 ∷ 40 ∷ 118 ∷ 101 ∷ 114 ∷ 116 ∷ 105 ∷ 99 ∷ 101 ∷ 115 ∷ 32 ∷ []

abbrev pub head_entries : List ℕ
head_entries = 41 ∷ 32 ∷ 40 ∷ 101 ∷ 110 ∷ 116 ∷ 114 ∷ 105 ∷ 101 ∷ 115 ∷ 32 ∷ []

pub vertex_pieces : (v : ℕ) (list : List ℕ) → (((vertex_start ++ decimal v) ++ list_start) ++ spaced list) ++ line_closing ≡ vertex_line v list
unfolding vertex_line
vertex_pieces v list = simp append_assoc

pub vertex_size : (v : ℕ) (list : List ℕ) → length (vertex_line v list) ≡ 8 + length (decimal v) + length (spaced list)
vertex_size v list = ap length (sym (vertex_pieces v list)) ∙ simp length-append (omega arith)

pub walk_pieces : (queue : List ℕ) → (walk_start ++ spaced queue) ++ line_closing ≡ walk_line queue
unfolding walk_line
walk_pieces queue = simp append_assoc

pub walk_size : (queue : List ℕ) → length (walk_line queue) ≡ 10 + length (spaced queue)
walk_size queue = ap length (sym (walk_pieces queue)) ∙ simp length-append (omega arith)

regroup : (a b c d e f g : List ℕ) → (((((a ++ b) ++ c) ++ d) ++ e) ++ f) ++ g ≡ a ++ (b ++ (c ++ (d ++ (e ++ (f ++ g)))))
regroup a b c d e f g = simp append_assoc

bracketed_then : (word digits rest : List ℕ) → bracketed (word ++ digits) ++ rest ≡ opening ∷ (word ++ (digits ++ (closing ∷ rest)))
bracketed_then word digits rest = simp append_assoc

fields_then : (word f v e : List ℕ) → line (bracketed (word ++ (f ++ (space ∷ (v ++ (space ∷ e)))))) ≡ opening ∷ (word ++ (f ++ (space ∷ (v ++ (space ∷ (e ++ (closing ∷ line_feed ∷ [])))))))
fields_then word f v e = simp append_assoc

pub head_pieces : (f v e : ℕ) → (((((head_start ++ decimal f) ++ head_vertices) ++ decimal v) ++ head_entries) ++ decimal e) ++ line_closing ≡ head_line f v e
unfolding head_line
head_pieces f v e =
    regroup head_start (decimal f) head_vertices (decimal v) head_entries (decimal e) line_closing
    ∙ sym (fields_then lattice_word (field frequency_word f) (field vertices_word v) (field entries_word e)
    ∙ ap (λ (r : List ℕ). opening ∷ (lattice_word ++ r)) (bracketed_then frequency_word (decimal f) _)
    ∙ ap (λ (r : List ℕ). head_start ++ (decimal f ++ (closing ∷ space ∷ r))) (bracketed_then vertices_word (decimal v) _)
    ∙ ap (λ (r : List ℕ). head_start ++ (decimal f ++ (head_vertices ++ (decimal v ++ (closing ∷ space ∷ r))))) (bracketed_then entries_word (decimal e) (closing ∷ line_feed ∷ [])))

pub head_size : (f v e : ℕ) → length (head_line f v e) ≡ 46 + length (decimal f) + length (decimal v) + length (decimal e)
head_size f v e = ap length (sym (head_pieces f v e)) ∙ simp length-append (omega arith)

module _ (lists : ℕ → List ℕ) where
  abbrev line_of : ℕ → List ℕ
  line_of v = vertex_line v (lists v)

  pub vertices_none : vertex_lines 0 lists ≡ []
  unfolding vertex_lines concatenate
  vertices_none = refl

  -- one vertex more
  pub vertices_suc : (v : ℕ) → vertex_lines (suc v) lists ≡ vertex_lines v lists ++ line_of v
  unfolding vertex_lines
  vertices_suc v = concatenate_suc v line_of

  -- there is room for the next line
  pub vertices_room : (v n : ℕ) → v < n → length (vertex_lines v lists) + length (line_of v) ≤ length (vertex_lines n lists)
  unfolding vertex_lines
  vertices_room v n lt =
      omega (
        arith,
        simp length-append at (ap length (concatenate_suc v line_of)),
        length_concatenate (suc v) line_of,
        length_concatenate n line_of,
        start_monotone line_of (suc v) n lt,
      )

module _ (f n e : ℕ) (lists : ℕ → List ℕ) (queue : List ℕ) where
  pub listing_pieces : (head_line f n e ++ vertex_lines n lists) ++ walk_line queue ≡ listing f n e lists queue
  unfolding listing
  listing_pieces = append_assoc (head_line f n e) (vertex_lines n lists) (walk_line queue)

  pub listing_size : length (listing f n e lists queue) ≡ length (head_line f n e) + length (vertex_lines n lists) + length (walk_line queue)
  listing_size = ap length (sym listing_pieces) ∙ simp length-append (omega arith)
