use Rattle.std.proofs.Common.{◌≡◌, ◌∙◌, refl, ap, subst, ℕ, ◌*◌, ◌/◌, ◌%◌, Bool as Truth, List, length}
use Rattle.std.specs.Prelude.{slice_index}
use Rattle.psl_tree.specs.declared.letter.Letter.{Letter}
use Rattle.psl_tree.specs.SequenceAutomata.{Edge, State, state_at}
use Rattle.sere_nfa.specs.Views.{edges_of}
use Rattle.sere_nfa.specs.declared.edge.NfaEdge.{NfaEdge}
use Rattle.lasso_judge.specs.Cells.{NoneGoes}
use Rattle.lasso_tables.specs.Seen.{seen_at}
use Rattle.lasso_judge.proofs.Drawn.{cell-state}
use Rattle.lasso_judge.proofs.Labelled.{edges-told}
use Rattle.lasso_judge.proofs.Passed.{passed_set}
use Rattle.lasso_judge.proofs.lasts.lasts.Goals as goal

pub first_along-number-requires-clause-told : goal.first_along-number-requires-clause-told
first_along-number-requires-clause-told c = edges-told (λ place. seen_at c.args.charted.word.now c.args.charted.flipped place) c.args.charted.chart.now _ c.as_slice.result.now c.requires.labels
    (cell-state c.args.cell (length c.args.charted.chart.now.nfa.states) c.len-states.result c.len-states.ensures c.requires.chart.drawn.some)
    (ap (λ (es : List NfaEdge). edges_of es) c.as_slice.ensures ∙ c.edges-edges.ensures.shown)

-- edges were passed at the cell that was looked at
passed-here : (states : List State) (letter : ℕ → Letter) (next : List ℕ) (marks : List Truth) (cell width first : ℕ) (edges : List Edge) (count : ℕ) → width ≡ length states
    → first ≡ slice_index next (cell / width) * width → edges ≡ (state_at states (cell % width)).edges → NoneGoes states (letter (cell / width)) marks first edges count
    → NoneGoes states (letter (cell / length states)) marks (slice_index next (cell / length states) * length states) (state_at states (cell % length states)).edges count
passed-here states letter next marks cell width first edges count e f g h =
    subst (λ (n : ℕ). NoneGoes states (letter (cell / n)) marks (slice_index next (cell / n) * n) (state_at states (cell % n)).edges count) e
    (subst (λ (n : ℕ). NoneGoes states (letter (cell / width)) marks n (state_at states (cell % width)).edges count) f
    (subst (λ (es : List Edge). NoneGoes states (letter (cell / width)) marks first es count) g h))

pub returns-clause-passed : goal.returns-clause-passed
returns-clause-passed c =
    passed_set c.args.charted.chart.now.nfa.states (λ place. seen_at c.args.charted.word.now c.args.charted.flipped place) c.args.charted.next.now c.args.charted.chart.now.cells c.args.marks.now c.args.passed.now.items c.args.cell c.first_along-number.result
    c.requires.passed
    (passed-here c.args.charted.chart.now.nfa.states (λ place. seen_at c.args.charted.word.now c.args.charted.flipped place) c.args.charted.next.now c.args.marks.now c.args.cell c.len-states.result
    _ (edges_of c.as_slice.result.now) c.first_along-number.result c.len-states.ensures
    refl
    (ap (λ (es : List NfaEdge). edges_of es) c.as_slice.ensures ∙ c.edges-edges.ensures.shown)
    c.first_along-number.ensures.passed)
    c.requires.cell
