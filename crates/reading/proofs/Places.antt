-- A read into a text's part behind what is filled.
use Rattle.std.proofs.Common.{◌≡◌, ℕ, ◌+◌, ◌≤◌, List, ◌++◌, length, take, sym, ap, ◌∙◌}
use Rattle.std.proofs.lemmas.List.{length-take-le, take-append-le}
use Rattle.std.proofs.Math.Seq.{take-append-add}
use borrow.Rule.Slice.PartMut.{put_mid, post_of}

-- What is filled is followed by what was read.
pub take-filled : (text part : List ℕ) (done room count : ℕ) → done ≤ length text → count ≤ length part
    → take (done + count) (put_mid done room text part) ≡ take done text ++ take count part
take-filled text part done room count within fits =
    let behind = part ++ post_of done room text in
    ap (λ n. take (n + count) (take done text ++ behind)) (sym (length-take-le done text within))
    ∙ take-append-add (take done text) behind count
    ∙ ap (λ read. take done text ++ read) (take-append-le count part (post_of done room text) fits)
