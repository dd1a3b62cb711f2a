use Rattle.std.proofs.Common.{◌≡◌, ◌⊎◌, suc, ◌<◌, ◌≤◌, ◌∙◌, false, length, map, drop, slice_index_or, sym, ap, inl, inr, add-one, arith, rules}
use Rattle.std.proofs.lemmas.Bool.{cases_lt}
use Rattle.std.proofs.lemmas.List.{drop-map, length-map}
use Rattle.blif_model.specs.Scanning.{word_of}
use Rattle.blif_linking.specs.Undriven.{first_free}
use Rattle.blif_linking.proofs.Freeing.{free-end, free-later}
use Rattle.blif_linking.proofs.undriven.first_free.Goals as goal

pub loop-number-preserved : goal.loop-number-preserved
loop-number-preserved c = λ whole.
    let n = c.loop-number.number in
    let free = c.args.free.now in
    let words = c.args.words.now in
    let off : slice_index_or free n false ≡ false = first_of (cc, search rules) in
    let within : n < length free = omega arith in
    let inside : n < length (map (word_of whole) words) = omega (arith, length-map words (word_of whole)) in
    rw add-one (c.loop-number.invariant whole
    ∙ ap (first_free (drop n free)) (sym (drop-map (word_of whole) n words))
    ∙ free-later free (map (word_of whole) words) n within inside off
    ∙ ap (first_free (drop (suc n) free)) (drop-map (word_of whole) (suc n) words))

pub returns : goal.returns
returns c = λ whole.
    let n = c.loop-number.number in
    let free = c.args.free.now in
    let words = c.args.words.now in
    let past : (length free ≤ n) ⊎ (length (map (word_of whole) words) ≤ n) =
    elim (cases_lt n (length free)) [
      | inl less ↦ inr (omega (arith, less, length-map words (word_of whole)))
      | inr more ↦ inl more
    ] in
    sym (c.loop-number.invariant whole
    ∙ ap (first_free (drop n free)) (sym (drop-map (word_of whole) n words))
    ∙ free-end free (map (word_of whole) words) n past)
