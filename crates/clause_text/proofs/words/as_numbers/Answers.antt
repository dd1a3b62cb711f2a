use Rattle.std.proofs.Common.{◌≡◌, ◌++◌, ◌∷◌, [], List, ℤ, pos, sym, ap, ◌∙◌, get_or, map, true, refl, rules}
use Rattle.std.proofs.lemmas.Bool.{and_from}
use Rattle.std.proofs.lemmas.List.{take_more, map_push}
use Rattle.std.proofs.lemmas.List.Folds.{list_all-append}
use Rattle.std.proofs.lemmas.Int.{to_z-of_z}
use Rattle.std.specs.List.{list_all}
use mir.Syntax.{w32}
use mir.Val.{SFits}
use lib.IntN.{nat_abs}
use Rattle.clauses.specs.Logs.{is_number}
use Rattle.clause_text.proofs.Numerals.{negative_at, positive_one, literal_at}
use Rattle.clause_text.proofs.words.as_numbers.Goals as goal

pub returns-then-literal-lt0 : goal.returns-then-literal-lt0
returns-then-literal-lt0 c = λ others same.
    let here = get_or c.args.literals.now c.loop-literal.literal-index (pos 0) in
    let fits : SFits w32 here = search rules in
    negative_at c.args.literals.now others c.loop-literal.literal-index c.loop-literal-test.true (rw (to_z-of_z w32 here fits) at c.if-literal-lt0.true) same

pub loop-literal-preserved : goal.loop-literal-preserved
loop-literal-preserved c =
    let literals = c.args.literals.now in
    let place = c.loop-literal.literal-index in
    let here = get_or literals place (pos 0) in
    let old = c.loop-literal.numbers.items in
    let fits : SFits w32 here = search rules in
    let number = positive_one here (literal_at literals place c.requires c.loop-literal-test.true) (rw (to_z-of_z w32 here fits) at c.if-literal-lt0.false) in
    let items : c.push.new.self.items ≡ old ++ nat_abs here ∷ [] = c.in_ok-push.ensures.items ∙ ap (λ z. old ++ nat_abs z ∷ []) (to_z-of_z w32 here fits) in
    record {
      same = take_more literals place (pos 0) c.loop-literal-test.true
          ∙ ap (λ (ls : List ℤ). ls ++ here ∷ []) c.loop-literal.invariant.same
          ∙ ap (λ z. map (λ n. pos n) old ++ z ∷ []) number.0
          ∙ sym (map_push (λ n. pos n) old (nat_abs here))
          ∙ ap (map (λ n. pos n)) (sym items);
      numbers = rw items (list_all-append is_number old (nat_abs here ∷ []) ∙ and_from (list_all is_number old) (list_all is_number (nat_abs here ∷ [])) c.loop-literal.invariant.numbers (and_from (is_number (nat_abs here)) true number.1 refl));
    }
