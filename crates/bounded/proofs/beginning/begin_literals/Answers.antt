use Rattle.std.proofs.Common.{◌≡◌, ◌∙◌, ◌++◌, ◌∷◌, [], ℤ, List, true, map, refl, sym, ap, rules, arith, w32}
use mir.Val.{SFits}
use Rattle.std.specs.List.{list_all, range_with_len}
use Rattle.std.proofs.lemmas.Bool.{and_from}
use Rattle.std.proofs.lemmas.Int.{to_z-of_z}
use Rattle.std.proofs.lemmas.List.Folds.{list_all-append}
use Rattle.std.proofs.lemmas.List.FromFn.{map-range_with_len_more}
use Rattle.clauses.specs.declared.flat.TheConstants.{MOST_VARIABLES}
use Rattle.clauses.specs.Literals.{is_within}
use Rattle.bounded.specs.Places.{begins_at}
use Rattle.bounded.proofs.beginning.begin_literals.Goals as goal

pub loop-place-preserved : goal.loop-place-preserved
loop-place-preserved c =
    let places = c.args.places.now in
    let a = places.automaton.now in
    let i = c.loop-place.place in
    let l = c.begins.result in
    let old = c.loop-place.literals in
    let fits_l : SFits w32 c.begins.result = search rules in
    let pushed : c.push.new.self ≡ old ++ l ∷ [] = simp to_z-of_z at c.in_ok-push.ensures.ok in
    let begins = begins_at a places.last places.before in
    let test = is_within MOST_VARIABLES in
    record {
      are = pushed ∙ ap (λ (x : List ℤ). x ++ l ∷ []) c.loop-place.invariant.are ∙ ap (λ x. map begins (range_with_len 0 i) ++ x ∷ []) c.begins.ensures.is
          ∙ sym (map-range_with_len_more begins 0 i i (omega arith));
      within = rw pushed (list_all-append test old (l ∷ []) ∙ and_from (list_all test old) (list_all test (l ∷ [])) c.loop-place.invariant.within (and_from (test l) true c.begins.ensures.literal refl));
    }
