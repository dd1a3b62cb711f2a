-- Steps of the loops that gather the sources of each state.
use Rattle.std.proofs.Common.{◌≡◌, ℕ, zero, suc, ◌+◌, ◌<◌, List, [], ◌∷◌, ◌++◌, map, length, take, get_or, set, refl, ap, sym, subst, ◌∙◌, arith}
use Rattle.std.proofs.lemmas.List.{map-append, take_more, length-map, length-take-le}
use Rattle.psl_tree.specs.SequenceAutomata.{Edge, State}
use Rattle.sere_nfa.specs.Marking.{sources_in, sources_from, AddsSources}
use Rattle.sere_nfa.specs.Views.{edge_of, edges_of, state_of, states_of_code}
use Rattle.sere_nfa.specs.declared.edge.NfaEdge.{NfaEdge}
use Rattle.sere_nfa.specs.declared.state.State as code_state
use Rattle.sere_nfa.proofs.Reach.{adds-more, sources_from-push}

-- which default is written does not matter within the list
get_or-any : (xs : List (List ℕ)) (i : ℕ) (a b : List ℕ) → i < length xs → get_or xs i a ≡ get_or xs i b
get_or-any [] i a b h = absurd (omega arith)
get_or-any (x ∷ xs) zero a b h = refl
get_or-any (x ∷ xs) (suc i) a b h = get_or-any xs i a b (omega arith)

-- one more edge was looked at
pub edge-source : (old now : List (List ℕ)) (number : ℕ) (edges : List NfaEdge) (i : ℕ) (e : NfaEdge) (found new : List ℕ)
    → i < length edges → e ≡ get_or edges i e → length now ≡ length old → e.target < length now
    → found ≡ get_or now e.target found → new ≡ found ++ number ∷ []
    → AddsSources old now number (edges_of (take i edges))
    → AddsSources old (set now e.target new) number (edges_of (take (i + 1) edges))
edge-source old now number edges i e found new h is len below was pushed adds =
    let longer : edges_of (take (i + 1) edges) ≡ edges_of (take i edges) ++ edge_of e ∷ [] =
    ap (λ (l : List NfaEdge). map edge_of l) (take_more edges i e h) ∙ (map-append edge_of (take i edges) (get_or edges i e ∷ [])
    ∙ ap (λ (f : NfaEdge). edges_of (take i edges) ++ edge_of f ∷ []) (sym is)) in
    let written : get_or now e.target [] ++ number ∷ [] ≡ new =
    ap (λ (l : List ℕ). l ++ number ∷ []) (get_or-any now e.target [] found below ∙ sym was) ∙ sym pushed in
    subst (λ (l : List Edge). AddsSources old (set now e.target new) number l) (sym longer)
    (subst (λ (l : List ℕ). AddsSources old (set now e.target l) number (edges_of (take i edges) ++ edge_of e ∷ [])) written
    (adds-more old now number (edges_of (take i edges)) (edge_of e) len below adds))

-- one more state was looked at
pub state-sources : (t : ℕ) (states : List code_state.State) (i : ℕ) (d : code_state.State) → i < length states
    → sources_from 0 t (states_of_code (take (i + 1) states)) ≡ sources_from 0 t (states_of_code (take i states)) ++ sources_in i t (edges_of (get_or states i d).edges)
state-sources t states i d h =
    let longer : states_of_code (take (i + 1) states) ≡ states_of_code (take i states) ++ state_of (get_or states i d) ∷ [] =
    ap (λ (l : List code_state.State). map state_of l) (take_more states i d h) ∙ map-append state_of (take i states) (get_or states i d ∷ []) in
    let place : 0 + length (states_of_code (take i states)) ≡ i = omega (arith, length-map (take i states) state_of, length-take-le {A = code_state.State}) in
    ap (λ (l : List State). sources_from 0 t l) longer
    ∙ (sources_from-push 0 t (states_of_code (take i states)) (state_of (get_or states i d))
    ∙ ap (λ n. sources_from 0 t (states_of_code (take i states)) ++ sources_in n t (edges_of (get_or states i d).edges)) place)
