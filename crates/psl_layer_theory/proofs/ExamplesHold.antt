-- The worked examples hold.
use Rattle.std.proofs.Common.{refl}
use Rattle.std.specs.Fmt.{digits}
use Rattle.psl_lexer.specs.Bytes.{base_of, digit_of}
use Rattle.psl_layer_theory.specs.Examples.{NextInSere, SequenceInBoolean, NoSuchName, TwoSuchNames, DoesNotSeeItself, DeclaredTwice, TooWide, RangeFalls, Indices, Buses, DefaultClock, NamedSequence, Comparison, signals, next_in_sere_text, sequence_in_boolean_text, no_such_name_text, two_such_names_text, does_not_see_itself_text, declared_twice_text, too_wide_text, range_falls_text}
use Rattle.psl_grammar.specs.declared.tree.UnitTree.TheVariants as trees
use Rattle.psl_layer_theory.specs.Flaws.{tree_flaws}
use Rattle.psl_layer_theory.proofs.Firsts.{first_of_is_first}

pub next_in_sere : NextInSere
next_in_sere box = first_of_is_first (tree_flaws signals (trees.Statements (next_in_sere_text box)))

pub sequence_in_boolean : SequenceInBoolean
sequence_in_boolean box = first_of_is_first (tree_flaws signals (trees.Statements (sequence_in_boolean_text box)))

pub no_such_name : NoSuchName
no_such_name = first_of_is_first (tree_flaws signals (trees.Statements no_such_name_text))

pub two_such_names : TwoSuchNames
two_such_names = first_of_is_first (tree_flaws signals (trees.Statements two_such_names_text))

pub does_not_see_itself : DoesNotSeeItself
does_not_see_itself = first_of_is_first (tree_flaws signals (trees.Statements does_not_see_itself_text))

pub declared_twice : DeclaredTwice
declared_twice box = first_of_is_first (tree_flaws signals (trees.Statements (declared_twice_text box)))

pub too_wide : TooWide
unfolding digit_of
too_wide box = first_of_is_first (tree_flaws signals (trees.Statements (too_wide_text box)))

pub range_falls : RangeFalls
unfolding digit_of
range_falls box = first_of_is_first (tree_flaws signals (trees.Statements (range_falls_text box)))

pub indices : Indices
indices = record { falling = refl; rising = refl; past = refl; whole = refl }

pub buses : Buses
unfolding digits
buses = record {
  below = refl;
  longer = refl;
  two_owners = refl;
  one_owner = refl;
  hole = refl;
  name_wins = refl;
  above_nine = refl;
  not_wider = refl;
  wide = refl;
  none = refl;
}

pub default_clock : DefaultClock
default_clock box = refl

pub named_sequence : NamedSequence
named_sequence box = refl

pub comparison : Comparison
unfolding base_of digit_of
comparison box = refl

-- what the law of worked examples asks
pub ruleset examples = (next_in_sere, sequence_in_boolean, no_such_name, two_such_names, does_not_see_itself, declared_twice, indices, default_clock, named_sequence)
