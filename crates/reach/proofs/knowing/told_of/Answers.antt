use Rattle.std.proofs.Common.{sym, ap, subst, ◌∙◌, ℕ, ℤ, List, arith}
use Rattle.std.specs.Prelude.{IfSome, IsTrue, Option}
use Rattle.std.proofs.lemmas.Grind.{common_steps}
use Rattle.clauses.specs.Literals.{clause_within, clauses_within}
use Rattle.clauses.specs.declared.flat.TheConstants.{MOST_VARIABLES}
use Rattle.gates_theory.proofs.Within.{wider}
use Rattle.reach.specs.Formulas.{AreWithin}
use Rattle.reach.specs.Knowing.{each_alone}
use Rattle.reach.specs.Questions.{IsTold}
use Rattle.reach.specs.declared.asking.Told.{Told}
use Rattle.reach_frames.specs.declared.stop.ReachQuery.TheVariants.{Initial}
use Rattle.reach.proofs.InitialLiterals.{alone-within, tells-known}
use Rattle.reach.proofs.knowing.told_of.Goals as goal

pub each_of-requires : goal.each_of-requires
each_of-requires c =
    let within : IsTrue (clause_within c.state_bits-width.result c.as_slice.result.now) = grind (arith, common_steps, c.are_within.ensures, c.if-not-are_within.false) in
    subst (λ (ls : List ℤ). IsTrue (clause_within MOST_VARIABLES ls)) (c.as_slice.ensures ∙ sym c.as_slice-2.ensures)
    (wider c.state_bits-width.result MOST_VARIABLES c.state_bits-width.ensures.few c.as_slice.result.now within)

pub ask_lightly-requires : goal.ask_lightly-requires
ask_lightly-requires c =
    let joined = c.args.joint.now in
    let width = c.state_bits-width.result in
    let literals = c.as_slice.result.now in
    let within : IsTrue (clause_within width literals) = grind (arith, common_steps, c.are_within.ensures, c.if-not-are_within.false) in
    subst (AreWithin joined) (sym (c.in_ok-clauses.ensures ∙ ap each_alone (c.as_slice-2.ensures ∙ sym c.as_slice.ensures)))
    (subst (λ (n : ℕ). IsTrue (clauses_within n (each_alone literals))) c.state_bits-width.ensures.is (alone-within width literals ∙ within))

pub returns-in-Some : goal.returns-in-Some
returns-in-Some c =
    let joined = c.args.joint.now in
    let width = c.state_bits-width.result in
    let literals = c.args.literals.now in
    let clauses = c.in_ok-clauses.clauses in
    let within : IsTrue (clause_within width c.as_slice.result.now) = grind (arith, common_steps, c.are_within.ensures, c.if-not-are_within.false) in
    let told : IsTold joined c.args.steps (Initial clauses) c.in-Some.told =
    subst (λ (o : Option Told). IfSome o (IsTold joined c.args.steps (Initial clauses))) c.in-Some.is c.in_ok-told.ensures in
    tells-known joined c.facts.ensures.netlist c.facts.ensures.automaton c.facts.ensures.tests c.args.steps width c.state_bits-width.ensures.is
    literals clauses (c.in_ok-clauses.ensures ∙ ap each_alone c.as_slice-2.ensures)
    (subst (λ (ls : List ℤ). IsTrue (clause_within width ls)) c.as_slice.ensures within) c.in-Some.told told
