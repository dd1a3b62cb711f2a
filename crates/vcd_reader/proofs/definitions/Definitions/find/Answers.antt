use Rattle.std.proofs.Common.{◌≡◌, ◌∙◌, ◌<◌, ℕ, List, Option, None, Some, length, sym, ap}
use Rattle.std.specs.Option.{IfSome}
use Rattle.vcd_reader.proofs.Places.{place_of-within}
use Rattle.vcd_reader.specs.Declarations.{Declared}
use Rattle.vcd_reader.specs.Labels.{place_of}
use Rattle.vcd_reader.proofs.definitions.Definitions.find.Goals as goal

by_place : (codes : List (List ℕ)) (code : List ℕ) (place : Option ℕ) → place ≡ place_of codes code → IfSome place (λ number. number < length codes)
by_place codes code None found = tt
by_place codes code (Some number) found = place_of-within codes code number (sym found)

pub returns-clause-within : goal.returns-clause-within
returns-clause-within c = by_place c.args.self.now.codes c.args.code.now _ (c.find.ensures ∙ ap (λ (d : Declared). place_of d.codes c.args.code.now) c.self.view_is)
