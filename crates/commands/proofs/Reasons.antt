-- What is said of the faults of texts and directives, but for want of memory, is said of a text.
use Rattle.std.proofs.Common.{◌≡◌, refl, ℕ, List}
use Rattle.std.specs.Prelude.{◌≢◌}
use Rattle.psl_layer_theory.specs.declared.fault.LayerFault.{LayerFault}
use Rattle.psl_layer_theory.specs.declared.fault.LayerFault.TheVariants as layer
use Rattle.psl_lexer.specs.declared.fault.LexFault.{LexFault}
use Rattle.psl_lexer.specs.declared.fault.LexFault.TheVariants as lex
use Rattle.psl_lexer.specs.declared.token.Token.{Token}
use Rattle.psl_parser.specs.declared.fault.ParseFault.{ParseFault}
use Rattle.psl_parser.specs.declared.fault.ParseFault.TheVariants as parse
use Rattle.psl_tree.specs.declared.directive.Directive.{Directive}
use Rattle.commands.specs.Diagnostics.{lex_diagnostic, parse_diagnostic, layer_diagnostic, judge_diagnostic}
use Rattle.commands.specs.Rows.{OfText, cause_of}
use Rattle.commands.specs.declared.reason.Reason.TheVariants.{NoMemory}
use Rattle.psl_tree.specs.declared.limit.Limit.TheVariants.{Sere, Automaton, Unroll, Formula as OfFormula}
use Rattle.psl_tree.specs.declared.limit.UnitFault.{UnitFault}
use Rattle.psl_tree.specs.declared.limit.UnitFault.TheVariants as units

pub lex-text : (fault : LexFault) → ((lex_diagnostic fault).reason ≢ NoMemory) → cause_of (lex_diagnostic fault).reason ≡ OfText
lex-text lex.NoMemory other = absurd (other refl)
lex-text _ other = refl

pub parse-text : (content : List ℕ) (tokens : List Token) (fault : ParseFault) → ((parse_diagnostic content tokens fault).reason ≢ NoMemory)
    → cause_of (parse_diagnostic content tokens fault).reason ≡ OfText
parse-text content tokens parse.NoMemory other = absurd (other refl)
parse-text content tokens _ other = refl

pub layer-text : (fault : LayerFault) → ((layer_diagnostic fault).reason ≢ NoMemory) → cause_of (layer_diagnostic fault).reason ≡ OfText
layer-text layer.NoMemory other = absurd (other refl)
layer-text _ other = refl

pub judge-text : (directives : List Directive) (fault : UnitFault) → ((judge_diagnostic directives fault).reason ≢ NoMemory)
    → cause_of (judge_diagnostic directives fault).reason ≡ OfText
judge-text directives units.NoMemory other = absurd (other refl)
judge-text directives (units.TooLarge number Sere) other = refl
judge-text directives (units.TooLarge number Automaton) other = refl
judge-text directives (units.TooLarge number Unroll) other = refl
judge-text directives (units.TooLarge number OfFormula) other = refl
