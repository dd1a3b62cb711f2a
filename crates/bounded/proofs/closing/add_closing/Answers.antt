use Rattle.std.proofs.Common.{◌≡◌, ◌∙◌, ℤ, List, [], Ok, Err, subst, rules, arith, to_z, of_z, w32}
use mir.Val.{SFits}
use Rattle.std.specs.List.{flat_map}
use Rattle.std.proofs.lemmas.Int.{to_z-of_z}
use Rattle.std.proofs.lemmas.List.{get_or_default}
use Rattle.std.proofs.lemmas.Result.{err_from_is_err_and}
use Rattle.clauses.specs.declared.flat.TheConstants.{MOST_WORDS}
use Rattle.clauses.specs.Literals.{clause_words}
use Rattle.gates_frames.specs.Frames.{literal_at}
use Rattle.bounded.specs.Adding.{Puts, frame_in}
use Rattle.bounded.specs.Places.{begins_at}
use Rattle.bounded.specs.Searches.{same_places, same_under}
use Rattle.bounded.proofs.Additions.{words-grow}
use Rattle.bounded.proofs.Appending.{appends-first, appends-then}
use Rattle.bounded.proofs.Wholes.{frames-part}
use Rattle.bounded.proofs.closing.add_closing.Goals as goal

pub returns-in_err-add_same_frames : goal.returns-in_err-add_same_frames
returns-in_err-add_same_frames c =
    let places = c.args.places.now in
    let a = places.automaton.now in
    let n = places.last in
    let q = c.args.place in
    let frames = c.args.frames.now in
    let signals = c.args.signals.now in
    let g = begins_at a n places.before q in
    let fits_g : SFits w32 c.begins.result = search rules in
    let e : to_z w32 (of_z w32 c.begins.result) ≡ g = rw to_z-of_z c.begins.ensures.is in
    let h : c.as_slice-here.result.now ≡ frame_in frames q = c.as_slice-here.ensures ∙ c.index-frames-place.is ∙ get_or_default frames q c.index-frames-place.result [] (omega (arith, c.requires.place, c.requires.size)) in
    let l : c.as_slice-last.result.now ≡ frame_in frames n = c.as_slice-last.ensures ∙ c.index-frames-places.is ∙ get_or_default frames n c.index-frames-places.result [] (omega (arith, c.requires.place, c.requires.size)) in
    let part = frames-part (to_z w32 (of_z w32 c.begins.result)) g c.as_slice-here.result.now (frame_in frames q) c.as_slice-last.result.now (frame_in frames n) signals e h l in
    let failed = subst (λ (cs : List (List ℤ)). Puts c.args.clauses.now c.add_same_frames.new.clauses cs (Err c.in_err-add_same_frames.field-0.0)) part c.in_err-add_same_frames.ensures in
    let p = err_from_is_err_and c.from_residual.result c.from_residual.ensures.1 in
    rw (p.1, p.2) (appends-first clause_words MOST_WORDS words-grow c.args.clauses.now c.add_same_frames.new.clauses
    (flat_map (λ s. same_under g (literal_at 0 (frame_in frames q) s) (literal_at 0 (frame_in frames n) s)) signals) (same_places a n places.before q) c.in_err-add_same_frames.field-0.0 failed)

pub returns : goal.returns
returns c =
    let places = c.args.places.now in
    let a = places.automaton.now in
    let n = places.last in
    let q = c.args.place in
    let frames = c.args.frames.now in
    let signals = c.args.signals.now in
    let g = begins_at a n places.before q in
    let fits_g : SFits w32 c.begins.result = search rules in
    let e : to_z w32 (of_z w32 c.begins.result) ≡ g = rw to_z-of_z c.begins.ensures.is in
    let h : c.as_slice-here.result.now ≡ frame_in frames q = c.as_slice-here.ensures ∙ c.index-frames-place.is ∙ get_or_default frames q c.index-frames-place.result [] (omega (arith, c.requires.place, c.requires.size)) in
    let l : c.as_slice-last.result.now ≡ frame_in frames n = c.as_slice-last.ensures ∙ c.index-frames-places.is ∙ get_or_default frames n c.index-frames-places.result [] (omega (arith, c.requires.place, c.requires.size)) in
    let part = frames-part (to_z w32 (of_z w32 c.begins.result)) g c.as_slice-here.result.now (frame_in frames q) c.as_slice-last.result.now (frame_in frames n) signals e h l in
    let put = subst (λ (cs : List (List ℤ)). Puts c.args.clauses.now c.add_same_frames.new.clauses cs (Ok tt)) part c.in_ok-add_same_frames.ensures in
    appends-then clause_words MOST_WORDS words-grow c.args.clauses.now c.add_same_frames.new.clauses c.add_same_places.new.clauses
    (flat_map (λ s. same_under g (literal_at 0 (frame_in frames q) s) (literal_at 0 (frame_in frames n) s)) signals) (same_places a n places.before q) c.add_same_places.result put c.add_same_places.ensures
