-- What contracts see of what steps over blocks need, and what it keeps.
use Rattle.std.specs.Prelude.{◌≡◌, length}
use Rattle.alternating_theory.specs.Obligations.{Automaton}
use Rattle.alternating_blocks.specs.Order.{IsOrder}
use Rattle.alternating_blocks.specs.Plan.{IsPlan}
use Rattle.alternating_blocks.specs.declared.step.Blocks.TheInside.{Inside}

-- whose blocks they are
abbrev pub automaton_of : Inside → Automaton
automaton_of inside = inside.automaton.now

-- the plan is the automaton's, and there is room for the words of all Booleans and obligations
pub record HasRoom (inside : Inside) : Type 0 where
  pub plan : IsPlan inside.automaton.now inside.plan
  pub order : IsOrder (length inside.after.items) inside.order
  pub tests : length inside.tests.items ≡ length inside.plan.tests.items
  pub after : length inside.after.items ≡ length inside.automaton.now.obligations
  pub words : length inside.words.items ≡ length inside.automaton.now.obligations
  pub stale : length inside.stale.items ≡ length inside.order.turns.items
