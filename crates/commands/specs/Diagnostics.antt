-- What is said of the faults of texts, recordings, netlists and directives: the reason, and the place in the file.
use Rattle.std.specs.Prelude.{ℕ, ◌==◌, List, length, slice_get, Option, None, Some}
use Rattle.std.specs.List.{find}
use Rattle.std.specs.Option.{option_map}
use Rattle.blif_model.specs.declared.fault.BlifFault.{BlifFault}
use Rattle.blif_model.specs.declared.fault.BlifFault.TheVariants as blif
use Rattle.psl_tree.specs.declared.limit.Limit.{Limit}
use Rattle.psl_tree.specs.declared.limit.Limit.TheVariants as limits
use Rattle.psl_base.specs.Places.{place_at}
use Rattle.psl_base.specs.declared.place.Place.{Place}
use Rattle.psl_layer_theory.specs.declared.fault.LayerFault.{LayerFault}
use Rattle.psl_layer_theory.specs.declared.fault.LayerFault.TheVariants as layer
use Rattle.psl_lexer.specs.declared.fault.LexFault.{LexFault}
use Rattle.psl_lexer.specs.declared.fault.LexFault.TheVariants as lex
use Rattle.psl_lexer.specs.declared.token.Token.{Token}
use Rattle.psl_parser.specs.declared.fault.ParseFault.{ParseFault}
use Rattle.psl_parser.specs.declared.fault.ParseFault.TheVariants as parse
use Rattle.psl_tree.specs.declared.directive.Directive.{Directive}
use Rattle.commands.specs.Faults.{at, fault_in, of_file, whole}
use Rattle.commands.specs.declared.outcome.Fault.{Fault}
use Rattle.commands.specs.declared.reason.Diagnostic.{Diagnostic}
use Rattle.commands.specs.declared.reason.Reason.{Reason}
use Rattle.commands.specs.declared.reason.Reason.TheVariants as reasons
use Rattle.vcd_reader.specs.declared.fault.VcdFault.{VcdFault}
use Rattle.vcd_reader.specs.declared.fault.VcdFault.TheVariants as vcd
use Rattle.psl_tree.specs.declared.limit.UnitFault.{UnitFault}
use Rattle.psl_tree.specs.declared.limit.UnitFault.TheVariants as units

-- the bytes of a text

abbrev pub lex_diagnostic : LexFault → Diagnostic
lex_diagnostic (lex.BadByte place) = at reasons.BadByte place
lex_diagnostic (lex.Unended place) = at reasons.Unended place
lex_diagnostic (lex.NumberTooLarge place) = at reasons.NumberTooLarge place
lex_diagnostic lex.NoMemory = whole reasons.NoMemory

-- the tokens of a text

-- the place of a token, or a place behind all tokens
abbrev pub place_or : Option Token → Place → Place
place_or None behind = behind
place_or (Some token) behind = token.place

-- the place of a token by its index; where there is none, the end of the text
abbrev pub token_place : List ℕ → List Token → ℕ → Place
token_place content tokens index = place_or (slice_get tokens index) (place_at content (length content))

abbrev pub parse_diagnostic : List ℕ → List Token → ParseFault → Diagnostic
parse_diagnostic content tokens (parse.Syntax token) = at reasons.Syntax (token_place content tokens token)
parse_diagnostic content tokens (parse.NestedTooDeep token) = at reasons.NestedTooDeep (token_place content tokens token)
parse_diagnostic content tokens (parse.StatementTooLong token) = at reasons.StatementTooLong (token_place content tokens token)
parse_diagnostic content tokens parse.NoMemory = whole reasons.NoMemory

-- kinds and names

abbrev pub layer_diagnostic : LayerFault → Diagnostic
layer_diagnostic (layer.Kind place) = at reasons.Kind place
layer_diagnostic (layer.UnknownName place) = at reasons.UnknownName place
layer_diagnostic (layer.Ambiguous place) = at reasons.Ambiguous place
layer_diagnostic (layer.DeclaredTwice place) = at reasons.DeclaredTwice place
layer_diagnostic (layer.EmptyRange place) = at reasons.EmptyRange place
layer_diagnostic (layer.ConstantTooWide place) = at reasons.ConstantTooWide place
layer_diagnostic (layer.TooLarge place) = at reasons.TooLarge place
layer_diagnostic layer.NoMemory = whole reasons.NoMemory

-- directives

-- the place of a directive by its number
abbrev pub directive_place : List Directive → ℕ → Option Place
directive_place directives number = option_map (λ (directive : Directive). directive.place) (find (λ (directive : Directive). directive.number == number) directives)

-- what is said at the word of the directive of a number
abbrev pub at_directive : Reason → List Directive → ℕ → Diagnostic
at_directive reason directives number = record { reason = reason; place = directive_place directives number }

-- what a limit is called that is passed
abbrev pub limit_reason : Limit → Reason
limit_reason limits.Sere = reasons.SereTooLarge
limit_reason limits.Automaton = reasons.AutomatonTooLarge
limit_reason limits.Unroll = reasons.UnrollTooLarge
limit_reason limits.Formula = reasons.FormulaTooLarge

abbrev pub judge_diagnostic : List Directive → UnitFault → Diagnostic
judge_diagnostic directives (units.TooLarge number limit) = at_directive (limit_reason limit) directives number
judge_diagnostic directives units.NoMemory = whole reasons.NoMemory

-- what is told of the directive of a number that passes a limit: at its place in the text, or of the netlist
abbrev pub limit_fault : List ℕ → List ℕ → List Directive → ℕ → Limit → Fault
limit_fault unit netlist directives number limits.Sere = fault_in unit (at_directive reasons.SereTooLarge directives number)
limit_fault unit netlist directives number limits.Automaton = fault_in unit (at_directive reasons.AutomatonTooLarge directives number)
limit_fault unit netlist directives number limits.Unroll = of_file reasons.UnrollTooLarge netlist
limit_fault unit netlist directives number limits.Formula = of_file reasons.FormulaTooLarge netlist

-- recordings

abbrev pub vcd_diagnostic : VcdFault → Diagnostic
vcd_diagnostic (vcd.UnknownKeyword place) = at reasons.UnknownKeyword place
vcd_diagnostic (vcd.MissingEnd place) = at reasons.MissingEnd place
vcd_diagnostic (vcd.BadVar place) = at reasons.BadVar place
vcd_diagnostic (vcd.CodeSizeDiffers place) = at reasons.CodeSizeDiffers place
vcd_diagnostic (vcd.ScopeNotOpen place) = at reasons.ScopeNotOpen place
vcd_diagnostic (vcd.BadTime place) = at reasons.BadTime place
vcd_diagnostic (vcd.TimeFalls place) = at reasons.TimeFalls place
vcd_diagnostic (vcd.CodeNotDeclared place) = at reasons.CodeNotDeclared place
vcd_diagnostic (vcd.BadValue place) = at reasons.BadValue place
vcd_diagnostic (vcd.VectorTooLong place) = at reasons.VectorTooLong place
vcd_diagnostic (vcd.ChangeBeforeDefinitionsEnd place) = at reasons.ChangeBeforeDefinitionsEnd place
vcd_diagnostic (vcd.EndsInside place) = at reasons.EndsInside place
vcd_diagnostic (vcd.TooManySamples place) = at reasons.TooManySamples place
vcd_diagnostic (vcd.TooManySignals place) = at reasons.TooManySignals place
vcd_diagnostic vcd.TooLong = whole reasons.TooLong
vcd_diagnostic vcd.ReadFault = whole reasons.ReadFault
vcd_diagnostic vcd.NoMemory = whole reasons.NoMemory

-- netlists

abbrev pub blif_diagnostic : BlifFault → Diagnostic
blif_diagnostic (blif.UnknownCommand place) = at reasons.UnknownCommand place
blif_diagnostic (blif.BadModel place) = at reasons.BadModel place
blif_diagnostic (blif.BadRow place) = at reasons.BadRow place
blif_diagnostic (blif.MixedRows place) = at reasons.MixedRows place
blif_diagnostic (blif.BadLatch place) = at reasons.BadLatch place
blif_diagnostic (blif.LatchType place) = at reasons.LatchType place
blif_diagnostic (blif.TwoClocks place) = at reasons.TwoClocks place
blif_diagnostic (blif.DrivenTwice place) = at reasons.DrivenTwice place
blif_diagnostic (blif.Undriven place) = at reasons.Undriven place
blif_diagnostic (blif.CombinationalCycle place) = at reasons.CombinationalCycle place
blif_diagnostic (blif.MissingEnd place) = at reasons.NetlistMissingEnd place
blif_diagnostic (blif.SecondModel place) = at reasons.SecondModel place
blif_diagnostic (blif.TooLarge place) = at reasons.NetlistTooLarge place
blif_diagnostic (blif.UnknownModel place) = at reasons.UnknownModel place
blif_diagnostic (blif.BadConnection place) = at reasons.BadConnection place
blif_diagnostic (blif.ModelRecursion place) = at reasons.ModelRecursion place
blif_diagnostic (blif.DrivenBySubckt place) = at reasons.DrivenBySubckt place
blif_diagnostic (blif.TooDeep place) = at reasons.ModelTooDeep place
blif_diagnostic blif.TooLong = whole reasons.TooLong
blif_diagnostic blif.ReadFault = whole reasons.ReadFault
blif_diagnostic blif.NoMemory = whole reasons.NoMemory
