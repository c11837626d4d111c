-- Pieces that are read one after the other into a room stand there as one, in their order. Assumes nothing.
use Rattle.std.proofs.Common.{◌≡◌, ◌∙◌, ap, sym, List, ◌++◌, ℕ, ◌+◌, ◌≤◌, length, take, append_assoc}
use Rattle.std.proofs.Math.Seq.{take-append-add, length-take-le}
use Rattle.std.proofs.lemmas.List.{take-append-le}
use Rattle.std.specs.Prelude.{Some, None, Option}
use Rattle.std.specs.Io.KnownBytes.{Consumes}

-- what is read in two pieces is what is read
both_read : (first mid last : Option (List ℕ)) (xs ys : List ℕ) → Consumes first mid xs → Consumes mid last ys → Consumes first last (xs ++ ys)
both_read None mid last xs ys p q = tt
both_read (Some a) None last xs ys p q = absurd p
both_read (Some a) (Some b) None xs ys p q = absurd q
both_read (Some a) (Some b) (Some c) xs ys p q = p ∙ ap (λ (l : List ℕ). xs ++ l) q ∙ sym (append_assoc xs ys c)

-- a turn of the loop that reads pieces: the one more lies behind what was read before
pub reads_on : (first mid last : Option (List ℕ)) (room piece beyond : List ℕ) (count more : ℕ) → count ≤ length room → more ≤ length piece
    → Consumes first mid (take count room) → Consumes mid last (take more piece)
    → Consumes first last (take (count + more) (take count room ++ (piece ++ beyond)))
reads_on first mid last room piece beyond count more inside fits before read =
    let whole : take (length (take count room) + more) (take count room ++ (piece ++ beyond)) ≡ take count room ++ take more piece =
    take-append-add (take count room) (piece ++ beyond) more ∙ ap (λ (l : List ℕ). take count room ++ l) (take-append-le more piece beyond fits) in
    let cut : take (count + more) (take count room ++ (piece ++ beyond)) ≡ take count room ++ take more piece = rw (length-take-le count room inside) at whole in
    rw cut (both_read first mid last (take count room) (take more piece) before read)
