use Rattle.std.proofs.Common.{◌≡◌, ◌∙◌, ◌<◌, pos, ℤ, List, get_or, length, Ok, Err, refl, ap, subst, rules, arith, to_z, of_z, w32}
use mir.Val.{SFits}
use Rattle.std.proofs.lemmas.Int.{to_z-of_z}
use Rattle.std.proofs.lemmas.Result.{err_from_is_err_and}
use Rattle.clauses.specs.declared.flat.TheConstants.{MOST_WORDS}
use Rattle.clauses.specs.Literals.{clause_words}
use Rattle.gates_frames.specs.Frames.{literal_at}
use Rattle.gates_nodes.specs.Nodes.{no}
use Rattle.bounded.specs.Adding.{Puts}
use Rattle.bounded.specs.Searches.{same_under}
use Rattle.bounded.proofs.Additions.{words-grow}
use Rattle.bounded.proofs.Appending.{rest-fail, rest-step}
use Rattle.bounded.proofs.Wholes.{there}
use Rattle.bounded.proofs.closing.add_same_frames.Goals as goal

same-same : (x y z u v w : ℤ) → x ≡ u → y ≡ v → z ≡ w → same_under x y z ≡ same_under u v w
same-same x y z u v w e f g = ap (λ k. same_under k y z) e ∙ ap (λ k. same_under u k z) f ∙ ap (λ k. same_under u v k) g

pub loop-i-preserved : goal.loop-i-preserved
loop-i-preserved c =
    let guard = c.args.guard in
    let here = c.args.here.now in
    let last = c.args.last.now in
    let signals = c.args.signals.now in
    let i = c.loop-i.i in
    let s = get_or signals i 0 in
    let low : i < length signals = omega arith in
    let one : s < length here = c.requires.here_within i 0 low in
    let two : s < length last = c.requires.last_within i 0 low in
    let fits_g : SFits w32 c.args.guard = search rules in
    let fits_h : SFits w32 (get_or c.args.here.now (get_or c.args.signals.now c.loop-i.i 0) (pos 0)) = search rules in
    let fits_l : SFits w32 (get_or c.args.last.now (get_or c.args.signals.now c.loop-i.i 0) (pos 0)) = search rules in
    let e : to_z w32 (of_z w32 guard) ≡ guard = rw to_z-of_z refl in
    let f : to_z w32 (of_z w32 (get_or here s (pos 0))) ≡ literal_at 0 here s = rw to_z-of_z (there here s (pos 0) (no 0) one) in
    let g : to_z w32 (of_z w32 (get_or last s (pos 0))) ≡ literal_at 0 last s = rw to_z-of_z (there last s (pos 0) (no 0) two) in
    let same = same-same (to_z w32 (of_z w32 guard)) (to_z w32 (of_z w32 (get_or here s (pos 0)))) (to_z w32 (of_z w32 (get_or last s (pos 0)))) guard (literal_at 0 here s) (literal_at 0 last s) e f g in
    let put = subst (λ (l : List (List ℤ)). Puts c.loop-i.clauses c.put_same.new.clauses l (Ok tt)) same c.in_ok-put_same.ensures in
    simp to_z-of_z (rest-step clause_words MOST_WORDS words-grow (λ signal. same_under guard (literal_at 0 here signal) (literal_at 0 last signal)) signals c.args.clauses.now c.loop-i.clauses c.put_same.new.clauses i low (simp to_z-of_z at c.loop-i.invariant) put)

pub returns-in_err-put_same : goal.returns-in_err-put_same
returns-in_err-put_same c =
    let guard = c.args.guard in
    let here = c.args.here.now in
    let last = c.args.last.now in
    let signals = c.args.signals.now in
    let i = c.loop-i.i in
    let s = get_or signals i 0 in
    let fault = c.in_err-put_same.field-0.0 in
    let low : i < length signals = omega arith in
    let one : s < length here = c.requires.here_within i 0 low in
    let two : s < length last = c.requires.last_within i 0 low in
    let fits_g : SFits w32 c.args.guard = search rules in
    let fits_h : SFits w32 (get_or c.args.here.now (get_or c.args.signals.now c.loop-i.i 0) (pos 0)) = search rules in
    let fits_l : SFits w32 (get_or c.args.last.now (get_or c.args.signals.now c.loop-i.i 0) (pos 0)) = search rules in
    let e : to_z w32 (of_z w32 guard) ≡ guard = rw to_z-of_z refl in
    let f : to_z w32 (of_z w32 (get_or here s (pos 0))) ≡ literal_at 0 here s = rw to_z-of_z (there here s (pos 0) (no 0) one) in
    let g : to_z w32 (of_z w32 (get_or last s (pos 0))) ≡ literal_at 0 last s = rw to_z-of_z (there last s (pos 0) (no 0) two) in
    let same = same-same (to_z w32 (of_z w32 guard)) (to_z w32 (of_z w32 (get_or here s (pos 0)))) (to_z w32 (of_z w32 (get_or last s (pos 0)))) guard (literal_at 0 here s) (literal_at 0 last s) e f g in
    let failed = subst (λ (l : List (List ℤ)). Puts c.loop-i.clauses c.put_same.new.clauses l (Err fault)) same c.in_err-put_same.ensures in
    let p = err_from_is_err_and c.from_residual.result c.from_residual.ensures.1 in
    rw (p.1, p.2) (rest-fail clause_words MOST_WORDS words-grow (λ signal. same_under guard (literal_at 0 here signal) (literal_at 0 last signal)) signals c.args.clauses.now c.loop-i.clauses c.put_same.new.clauses i fault low (simp to_z-of_z at c.loop-i.invariant) failed)
