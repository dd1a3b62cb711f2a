use Rattle.std.proofs.Common.{◌≡◌, ◌∙◌, suc, ◌+◌, ℤ, List, Ok, Err, ap, subst, rules, arith, to_z, of_z, w32}
use mir.Val.{SFits}
use Rattle.std.proofs.lemmas.Int.{to_z-of_z}
use Rattle.std.proofs.lemmas.Result.{err_from_is_err_and}
use Rattle.clauses.specs.declared.flat.TheConstants.{MOST_WORDS}
use Rattle.clauses.specs.Literals.{clause_words}
use Rattle.bounded.specs.Adding.{Puts}
use Rattle.bounded.specs.Places.{begins_at, bit_at, place_bits}
use Rattle.bounded.specs.Searches.{same_under}
use Rattle.bounded.proofs.Additions.{words-grow}
use Rattle.bounded.proofs.Appending.{left-end, left-fail, left-start, left-step}
use Rattle.bounded.proofs.closing.add_same_places.Goals as goal

same-same : (x y z u v w : ℤ) → x ≡ u → y ≡ v → z ≡ w → same_under x y z ≡ same_under u v w
same-same x y z u v w e f g = ap (λ k. same_under k y z) e ∙ ap (λ k. same_under u k z) f ∙ ap (λ k. same_under u v k) g

pub loop-bit-init : goal.loop-bit-init
loop-bit-init c =
    let places = c.args.places.now in
    let a = places.automaton.now in
    left-start clause_words MOST_WORDS words-grow (λ bit. same_under (begins_at a places.last places.before c.args.place) (bit_at a places.before (suc c.args.place) bit) (bit_at a places.before (suc places.last) bit))
    (place_bits a) c.args.clauses.now

pub loop-bit-preserved : goal.loop-bit-preserved
loop-bit-preserved c =
    let places = c.args.places.now in
    let a = places.automaton.now in
    let k = c.loop-bit.bit in
    let fits_g : SFits w32 c.begins-guard.result = search rules in
    let fits_h : SFits w32 c.bit-here.result = search rules in
    let fits_l : SFits w32 c.bit-last.result = search rules in
    let one : c.args.place + 1 ≡ suc c.args.place = omega arith in
    let two : places.last + 1 ≡ suc places.last = omega arith in
    let e : to_z w32 (of_z w32 c.begins-guard.result) ≡ begins_at a places.last places.before c.args.place = rw to_z-of_z c.begins-guard.ensures.is in
    let f : to_z w32 (of_z w32 c.bit-here.result) ≡ bit_at a places.before (suc c.args.place) k = rw to_z-of_z (c.bit-here.ensures.is ∙ ap (λ p. bit_at a places.before p k) one) in
    let g : to_z w32 (of_z w32 c.bit-last.result) ≡ bit_at a places.before (suc places.last) k = rw to_z-of_z (c.bit-last.ensures.is ∙ ap (λ p. bit_at a places.before p k) two) in
    let same = same-same (to_z w32 (of_z w32 c.begins-guard.result)) (to_z w32 (of_z w32 c.bit-here.result)) (to_z w32 (of_z w32 c.bit-last.result)) (begins_at a places.last places.before c.args.place) (bit_at a places.before (suc c.args.place) k) (bit_at a places.before (suc places.last) k) e f g in
    let put = subst (λ (l : List (List ℤ)). Puts c.loop-bit.clauses c.put_same.new.clauses l (Ok tt)) same c.in_ok-put_same.ensures in
    left-step clause_words MOST_WORDS words-grow (λ bit. same_under (begins_at a places.last places.before c.args.place) (bit_at a places.before (suc c.args.place) bit) (bit_at a places.before (suc places.last) bit))
    (place_bits a) c.args.clauses.now c.loop-bit.clauses c.put_same.new.clauses k (omega (arith, places.bits_are)) c.loop-bit.invariant put

pub returns-in_err-put_same : goal.returns-in_err-put_same
returns-in_err-put_same c =
    let places = c.args.places.now in
    let a = places.automaton.now in
    let k = c.loop-bit.bit in
    let fault = c.in_err-put_same.field-0.0 in
    let fits_g : SFits w32 c.begins-guard.result = search rules in
    let fits_h : SFits w32 c.bit-here.result = search rules in
    let fits_l : SFits w32 c.bit-last.result = search rules in
    let one : c.args.place + 1 ≡ suc c.args.place = omega arith in
    let two : places.last + 1 ≡ suc places.last = omega arith in
    let e : to_z w32 (of_z w32 c.begins-guard.result) ≡ begins_at a places.last places.before c.args.place = rw to_z-of_z c.begins-guard.ensures.is in
    let f : to_z w32 (of_z w32 c.bit-here.result) ≡ bit_at a places.before (suc c.args.place) k = rw to_z-of_z (c.bit-here.ensures.is ∙ ap (λ p. bit_at a places.before p k) one) in
    let g : to_z w32 (of_z w32 c.bit-last.result) ≡ bit_at a places.before (suc places.last) k = rw to_z-of_z (c.bit-last.ensures.is ∙ ap (λ p. bit_at a places.before p k) two) in
    let same = same-same (to_z w32 (of_z w32 c.begins-guard.result)) (to_z w32 (of_z w32 c.bit-here.result)) (to_z w32 (of_z w32 c.bit-last.result)) (begins_at a places.last places.before c.args.place) (bit_at a places.before (suc c.args.place) k) (bit_at a places.before (suc places.last) k) e f g in
    let failed = subst (λ (l : List (List ℤ)). Puts c.loop-bit.clauses c.put_same.new.clauses l (Err fault)) same c.in_err-put_same.ensures in
    let p = err_from_is_err_and c.from_residual.result c.from_residual.ensures.1 in
    rw (p.1, p.2) (left-fail clause_words MOST_WORDS words-grow (λ bit. same_under (begins_at a places.last places.before c.args.place) (bit_at a places.before (suc c.args.place) bit) (bit_at a places.before (suc places.last) bit))
    (place_bits a) c.args.clauses.now c.loop-bit.clauses c.put_same.new.clauses k fault (omega (arith, places.bits_are)) c.loop-bit.invariant failed)

pub returns : goal.returns
returns c =
    let places = c.args.places.now in
    let a = places.automaton.now in
    left-end clause_words MOST_WORDS words-grow (λ bit. same_under (begins_at a places.last places.before c.args.place) (bit_at a places.before (suc c.args.place) bit) (bit_at a places.before (suc places.last) bit))
    (place_bits a) c.args.clauses.now c.loop-bit.clauses c.loop-bit.bit (omega (arith, places.bits_are)) (omega (arith, places.bits_are)) c.loop-bit.invariant
