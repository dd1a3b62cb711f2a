use Rattle.std.proofs.Common.{◌≤◌, length, ◌+◌, ◌*◌}
use Rattle.psl_grammar.specs.Parts.{Quoted, Sym, ◌~◌, ◌//◌, Or, And, Cmp, Fus, Alt, Conj, Band, Bcmp, Side, Wtail}
use Rattle.psl_grammar.specs.Productions.{aborts, sequence_ands}
use Rattle.psl_grammar.specs.Surface.{node_of}
use Rattle.psl_grammar.specs.Trees.{tails, wide_tails}
use Rattle.psl_lexer.specs.declared.kind.TokenKind.TheVariants as kinds
use Rattle.psl_parser.specs.Steps.{state}
use Rattle.psl_parser.proofs.Rounds.{Behind, Joined, Waiting}
use Rattle.psl_parser.proofs.parser.Parser.+parser.Given as goal

abbrev pub decreases-property : goal.decreases-property
decreases-property l = 64 * length l.self.now.rest.now + 40

abbrev pub decreases-implication : goal.decreases-implication
decreases-implication l = 64 * length l.self.now.rest.now + 39

abbrev pub decreases-suffix_implication : goal.decreases-suffix_implication
decreases-suffix_implication l = 64 * length l.self.now.rest.now + 38

abbrev pub decreases-bounded : goal.decreases-bounded
decreases-bounded l = 64 * length l.self.now.rest.now + 37

abbrev pub decreases-occurrence : goal.decreases-occurrence
decreases-occurrence l = 64 * length l.self.now.rest.now + 36

abbrev pub decreases-termination : goal.decreases-termination
decreases-termination l = 64 * length l.self.now.rest.now + 35

abbrev pub decreases-clocked : goal.decreases-clocked
decreases-clocked l = 64 * length l.self.now.rest.now + 34

abbrev pub decreases-disjunction : goal.decreases-disjunction
decreases-disjunction l = 64 * length l.self.now.rest.now + 33

abbrev pub decreases-conjunction : goal.decreases-conjunction
decreases-conjunction l = 64 * length l.self.now.rest.now + 32

abbrev pub decreases-comparison : goal.decreases-comparison
decreases-comparison l = 64 * length l.self.now.rest.now + 31

abbrev pub decreases-unary : goal.decreases-unary
decreases-unary l = 64 * length l.self.now.rest.now + 30

abbrev pub decreases-primary : goal.decreases-primary
decreases-primary l = 64 * length l.self.now.rest.now + 29

abbrev pub decreases-counted : goal.decreases-counted
decreases-counted l = 64 * length l.self.now.rest.now + 28

abbrev pub decreases-next_times : goal.decreases-next_times
decreases-next_times l = 64 * length l.self.now.rest.now + 27

abbrev pub decreases-next_range : goal.decreases-next_range
decreases-next_range l = 64 * length l.self.now.rest.now + 27

abbrev pub decreases-next_event : goal.decreases-next_event
decreases-next_event l = 64 * length l.self.now.rest.now + 27

abbrev pub decreases-event_range : goal.decreases-event_range
decreases-event_range l = 64 * length l.self.now.rest.now + 27

abbrev pub decreases-sequence : goal.decreases-sequence
decreases-sequence l = 64 * length l.self.now.rest.now + 26

abbrev pub decreases-fusion : goal.decreases-fusion
decreases-fusion l = 64 * length l.self.now.rest.now + 25

abbrev pub decreases-alternation : goal.decreases-alternation
decreases-alternation l = 64 * length l.self.now.rest.now + 24

abbrev pub decreases-conjunct : goal.decreases-conjunct
decreases-conjunct l = 64 * length l.self.now.rest.now + 23

abbrev pub decreases-side : goal.decreases-side
decreases-side l = 64 * length l.self.now.rest.now + 22

abbrev pub decreases-bool_or : goal.decreases-bool_or
decreases-bool_or l = 64 * length l.self.now.rest.now + 21

abbrev pub decreases-bool_and : goal.decreases-bool_and
decreases-bool_and l = 64 * length l.self.now.rest.now + 20

abbrev pub decreases-bool_comparison : goal.decreases-bool_comparison
decreases-bool_comparison l = 64 * length l.self.now.rest.now + 19

abbrev pub decreases-bool_unary : goal.decreases-bool_unary
decreases-bool_unary l = 64 * length l.self.now.rest.now + 18

abbrev pub decreases-tails : goal.decreases-tails
decreases-tails l = 64 * length l.self.now.rest.now + 17

abbrev pub decreases-start : goal.decreases-start
decreases-start l = 64 * length l.self.now.rest.now + 16

abbrev pub decreases-braced : goal.decreases-braced
decreases-braced l = 64 * length l.self.now.rest.now + 15

abbrev pub decreases-and_tail : goal.decreases-and_tail
decreases-and_tail l = 64 * length l.self.now.rest.now + 14

abbrev pub decreases-within_tail : goal.decreases-within_tail
decreases-within_tail l = 64 * length l.self.now.rest.now + 13

abbrev pub decreases-posts : goal.decreases-posts
decreases-posts l = 64 * length l.self.now.rest.now + 12

abbrev pub decreases-post : goal.decreases-post
decreases-post l = 64 * length l.self.now.rest.now + 11

abbrev pub decreases-clock : goal.decreases-clock
decreases-clock l = 64 * length l.self.now.rest.now + 9

abbrev pub decreases-atom : goal.decreases-atom
decreases-atom l = 64 * length l.self.now.rest.now + 8

abbrev pub decreases-group : goal.decreases-group
decreases-group l = 64 * length l.self.now.rest.now + 7

abbrev pub decreases-grouped : goal.decreases-grouped
decreases-grouped l = 64 * length l.self.now.rest.now + 6

abbrev pub invariant-termination-loop-alloc : goal.invariant-termination-loop-alloc
invariant-termination-loop-alloc l = record {
  fewer : length l.self.rest.now ≤ length l.initial.self.rest.now;
  rounds : Joined (aborts ~ Sym Or) (state l.initial.self) (state l.self) (node_of l.initial.left.tree.value) (node_of l.left.tree.value);
}

abbrev pub decreases-termination-loop-alloc : goal.decreases-termination-loop-alloc
decreases-termination-loop-alloc l = length l.self.rest.now

abbrev pub invariant-disjunction-loop-alloc : goal.invariant-disjunction-loop-alloc
invariant-disjunction-loop-alloc l = record {
  fewer : length l.self.rest.now ≤ length l.initial.self.rest.now;
  rounds : Joined (Quoted kinds.OrOr ~ Sym And) (state l.initial.self) (state l.self) (node_of l.initial.left.tree.value) (node_of l.left.tree.value);
}

abbrev pub decreases-disjunction-loop-alloc : goal.decreases-disjunction-loop-alloc
decreases-disjunction-loop-alloc l = length l.self.rest.now

abbrev pub invariant-conjunction-loop-alloc : goal.invariant-conjunction-loop-alloc
invariant-conjunction-loop-alloc l = record {
  fewer : length l.self.rest.now ≤ length l.initial.self.rest.now;
  rounds : Joined (Quoted kinds.AndAnd ~ Sym Cmp) (state l.initial.self) (state l.self) (node_of l.initial.left.tree.value) (node_of l.left.tree.value);
}

abbrev pub decreases-conjunction-loop-alloc : goal.decreases-conjunction-loop-alloc
decreases-conjunction-loop-alloc l = length l.self.rest.now

abbrev pub invariant-sequence-loop-alloc : goal.invariant-sequence-loop-alloc
invariant-sequence-loop-alloc l = record {
  fewer : length l.self.rest.now ≤ length l.initial.self.rest.now;
  rounds : Joined (Quoted kinds.Semicolon ~ Sym Fus) (state l.initial.self) (state l.self) (node_of l.initial.left.tree.value) (node_of l.left.tree.value);
}

abbrev pub decreases-sequence-loop-alloc : goal.decreases-sequence-loop-alloc
decreases-sequence-loop-alloc l = length l.self.rest.now

abbrev pub invariant-fusion-loop-alloc : goal.invariant-fusion-loop-alloc
invariant-fusion-loop-alloc l = record {
  fewer : length l.self.rest.now ≤ length l.initial.self.rest.now;
  rounds : Joined (Quoted kinds.Colon ~ Sym Alt) (state l.initial.self) (state l.self) (node_of l.initial.left.tree.value) (node_of l.left.tree.value);
}

abbrev pub decreases-fusion-loop-alloc : goal.decreases-fusion-loop-alloc
decreases-fusion-loop-alloc l = length l.self.rest.now

abbrev pub invariant-alternation-loop-alloc : goal.invariant-alternation-loop-alloc
invariant-alternation-loop-alloc l = record {
  fewer : length l.self.rest.now ≤ length l.initial.self.rest.now;
  rounds : Joined (Quoted kinds.Bar ~ Sym Conj) (state l.initial.self) (state l.self) (node_of l.initial.left.tree.value) (node_of l.left.tree.value);
}

abbrev pub decreases-alternation-loop-alloc : goal.decreases-alternation-loop-alloc
decreases-alternation-loop-alloc l = length l.self.rest.now

abbrev pub invariant-bool_or-loop-alloc : goal.invariant-bool_or-loop-alloc
invariant-bool_or-loop-alloc l = record {
  fewer : length l.self.rest.now ≤ length l.initial.self.rest.now;
  rounds : Joined (Quoted kinds.OrOr ~ Sym Band) (state l.initial.self) (state l.self) (node_of l.initial.left.tree.value) (node_of l.left.tree.value);
}

abbrev pub decreases-bool_or-loop-alloc : goal.decreases-bool_or-loop-alloc
decreases-bool_or-loop-alloc l = length l.self.rest.now

abbrev pub invariant-bool_and-loop-alloc : goal.invariant-bool_and-loop-alloc
invariant-bool_and-loop-alloc l = record {
  fewer : length l.self.rest.now ≤ length l.initial.self.rest.now;
  rounds : Joined (Quoted kinds.AndAnd ~ Sym Bcmp) (state l.initial.self) (state l.self) (node_of l.initial.left.tree.value) (node_of l.left.tree.value);
}

abbrev pub decreases-bool_and-loop-alloc : goal.decreases-bool_and-loop-alloc
decreases-bool_and-loop-alloc l = length l.self.rest.now

abbrev pub invariant-posts-loop-alloc : goal.invariant-posts-loop-alloc
invariant-posts-loop-alloc l = record {
  fewer : length l.self.rest.now ≤ length l.initial.self.rest.now;
  rounds : Behind (state l.initial.self) (state l.self) (node_of l.initial.operand.tree.value) (node_of l.operand.tree.value);
}

abbrev pub decreases-posts-loop-alloc : goal.decreases-posts-loop-alloc
decreases-posts-loop-alloc l = length l.self.rest.now

abbrev pub invariant-within_tail-loop-alloc : goal.invariant-within_tail-loop-alloc
invariant-within_tail-loop-alloc l = record {
  fewer : length l.self.rest.now ≤ length l.initial.self.rest.now;
  rounds : Waiting tails (Quoted kinds.Within ~ Sym Side) (state l.initial.self) (state l.self) (node_of l.initial.left.tree.value) (node_of l.left.tree.value);
}

abbrev pub decreases-within_tail-loop-alloc : goal.decreases-within_tail-loop-alloc
decreases-within_tail-loop-alloc l = length l.self.rest.now

abbrev pub invariant-and_tail-loop-alloc : goal.invariant-and_tail-loop-alloc
invariant-and_tail-loop-alloc l = record {
  fewer : length l.self.rest.now ≤ length l.initial.self.rest.now;
  rounds : Waiting wide_tails (sequence_ands ~ Sym Side ~ Sym Wtail) (state l.initial.self) (state l.self) (node_of l.initial.left.tree.value) (node_of l.left.tree.value);
}

abbrev pub decreases-and_tail-loop-alloc : goal.decreases-and_tail-loop-alloc
decreases-and_tail-loop-alloc l = length l.self.rest.now
