-- Steps of the loops that pair edges and states.
use Rattle.std.proofs.Common.{◌≡◌, ℕ, ◌+◌, ◌<◌, length, take, get_or, List, [], ◌∷◌, ◌++◌, map, ap, sym, ◌∙◌, append_assoc, append-nil}
use Rattle.std.proofs.lemmas.List.{map-append, take_more}
use Rattle.psl_tree.specs.SequenceAutomata.{Edge}
use Rattle.psl_tree.specs.SequenceConstruction.{Draft, edge_pair, edge_pairs, state_pair, state_pairs}
use Rattle.sere_nfa.specs.Views.{edge_of, edges_of, draft_of, drafts_of}
use Rattle.sere_nfa.specs.declared.edge.NfaEdge.{NfaEdge}
use Rattle.sere_nfa.specs.declared.state.State as code_state

pub edge_pairs_push : (o m : ℕ) (es fs : List Edge) (e : Edge)
    → edge_pairs o m (es ++ e ∷ []) fs ≡ edge_pairs o m es fs ++ map (λ second. edge_pair o m e second) fs
edge_pairs_push o m [] fs e = append-nil (map (λ second. edge_pair o m e second) fs)
edge_pairs_push o m (g ∷ es) fs e =
    ap (λ (l : List Edge). map (λ second. edge_pair o m g second) fs ++ l) (edge_pairs_push o m es fs e)
    ∙ sym (append_assoc (map (λ second. edge_pair o m g second) fs) (edge_pairs o m es fs) (map (λ second. edge_pair o m e second) fs))

pub state_pairs_push : (o m : ℕ) (ss ts : List Draft) (s : Draft)
    → state_pairs o m (ss ++ s ∷ []) ts ≡ state_pairs o m ss ts ++ map (λ second. state_pair o m s second) ts
state_pairs_push o m [] ts s = append-nil (map (λ second. state_pair o m s second) ts)
state_pairs_push o m (g ∷ ss) ts s =
    ap (λ (l : List Draft). map (λ second. state_pair o m g second) ts ++ l) (state_pairs_push o m ss ts s)
    ∙ sym (append_assoc (map (λ second. state_pair o m g second) ts) (state_pairs o m ss ts) (map (λ second. state_pair o m s second) ts))

-- one more edge of the first state was taken together with those of the second
pub edge_row-more : (o m : ℕ) (xs : List NfaEdge) (fs : List Edge) (i : ℕ) (d : NfaEdge) (made now : List Edge) → i < length xs
    → made ≡ edge_pairs o m (edges_of (take i xs)) fs
    → now ≡ made ++ map (λ second. edge_pair o m (edge_of (get_or xs i d)) second) fs
    → now ≡ edge_pairs o m (edges_of (take (i + 1) xs)) fs
edge_row-more o m xs fs i d made now h e f =
    let longer : edges_of (take (i + 1) xs) ≡ edges_of (take i xs) ++ edge_of (get_or xs i d) ∷ [] =
    ap (λ (l : List NfaEdge). map edge_of l) (take_more xs i d h) ∙ map-append edge_of (take i xs) (get_or xs i d ∷ []) in
    f ∙ (ap (λ (l : List Edge). l ++ map (λ second. edge_pair o m (edge_of (get_or xs i d)) second) fs) e
    ∙ (sym (edge_pairs_push o m (edges_of (take i xs)) fs (edge_of (get_or xs i d)))
    ∙ ap (λ (l : List Edge). edge_pairs o m l fs) (sym longer)))

-- one more state of the first part was taken together with those of the second
pub state_row-more : (o m : ℕ) (xs : List code_state.State) (ts : List Draft) (i : ℕ) (d : code_state.State) (made now : List Draft) → i < length xs
    → made ≡ state_pairs o m (drafts_of (take i xs)) ts
    → now ≡ made ++ map (λ second. state_pair o m (draft_of (get_or xs i d)) second) ts
    → now ≡ state_pairs o m (drafts_of (take (i + 1) xs)) ts
state_row-more o m xs ts i d made now h e f =
    let longer : drafts_of (take (i + 1) xs) ≡ drafts_of (take i xs) ++ draft_of (get_or xs i d) ∷ [] =
    ap (λ (l : List code_state.State). map draft_of l) (take_more xs i d h) ∙ map-append draft_of (take i xs) (get_or xs i d ∷ []) in
    f ∙ (ap (λ (l : List Draft). l ++ map (λ second. state_pair o m (draft_of (get_or xs i d)) second) ts) e
    ∙ (sym (state_pairs_push o m (drafts_of (take i xs)) ts (draft_of (get_or xs i d)))
    ∙ ap (λ (l : List Draft). state_pairs o m l ts) (sym longer)))
