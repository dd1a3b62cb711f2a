-- The search by halves for the first placement that leads back.
use Rattle.std.proofs.Common.{◌≡◌, ℕ, zero, suc, ◌+◌, ◌<◌, ◌≤◌, List, [], length, take, set, get_or, map, Bor, Option, sym, ap, ◌∙◌, subst, arith}
use Rattle.std.proofs.lemmas.List.{set-set, set-get_or, take_all, map-set, get_or-map, length-map}
use Rattle.netlist_order.specs.Graph.{Depends, IsFirstOnCycle}
use Rattle.netlist_order.specs.Wires.{drivers_of, graph_of}
use Rattle.blif_hierarchy.specs.Recursion.{cut_at, IsLeast}
use Rattle.blif_hierarchy.proofs.Back.{none-kept, all-kept, uncut}

-- of the numbers of a model so many are kept, and with some count it does not depend on itself, but with a larger one
pub record Halves (first now : List (List ℕ)) (drivers : List (Option ℕ)) (model low high : ℕ) : Type 0 where
  pub kept : ℕ
  pub cut : now ≡ cut_at first model kept
  pub below : low < high
  pub within : high ≤ length (get_or first model [])
  pub fails : Depends (graph_of (cut_at first model low) drivers) model model → ⊥
  pub holds : Depends (graph_of (cut_at first model high) drivers) model model

module _ (first : List (List ℕ)) (drivers : List (Option ℕ)) (model : ℕ) (lt : model < length first) where
  pub halves-begin : Depends (graph_of first drivers) model model → Halves first first drivers model 0 (length (get_or first model []))
  halves-begin depends =
      let holds = all-kept first drivers model lt depends in
      record {
        kept = length (get_or first model []);
        cut = sym (ap (λ (list : List ℕ). set first model list) (take_all (length (get_or first model [])) (get_or first model []) (omega arith)) ∙ set-get_or first model []);
        below = some (length (get_or first model [])) holds;
        within = omega arith;
        fails = none-kept first drivers model lt;
        holds = holds;
      }
    where
      some : (count : ℕ) → Depends (graph_of (cut_at first model count) drivers) model model → 0 < count
      some zero depends = absurd (none-kept first drivers model lt depends)
      some (suc count) depends = omega arith

  cut-again : (now next : List (List ℕ)) (kept count : ℕ) → now ≡ cut_at first model kept → next ≡ set now model (take count (get_or first model []))
      → next ≡ cut_at first model count
  cut-again now next kept count is made =
      made ∙ ap (λ (lists : List (List ℕ)). set lists model (take count (get_or first model []))) is
      ∙ set-set first model (take kept (get_or first model [])) (take count (get_or first model []))

  pub halves-cut : (now next : List (List ℕ)) (low high middle : ℕ) → Halves first now drivers model low high
      → next ≡ set now model (take middle (get_or first model [])) → next ≡ cut_at first model middle
  halves-cut now next low high middle halves made = cut-again now next halves.kept middle halves.cut made

  -- with the first half it does, or does not
  pub halves-first : (now next : List (List ℕ)) (low high middle : ℕ) → Halves first now drivers model low high
      → next ≡ set now model (take middle (get_or first model [])) → low < middle → middle < high
      → Depends (graph_of next drivers) model model → Halves first next drivers model low middle
  halves-first now next low high middle halves made more less depends =
      let cut = halves-cut now next low high middle halves made in
      record {
        kept = middle;
        cut = cut;
        below = more;
        within = omega (arith, halves.within);
        fails = halves.fails;
        holds = subst (λ (lists : List (List ℕ)). Depends (graph_of lists drivers) model model) cut depends;
      }

  pub halves-second : (now next : List (List ℕ)) (low high middle : ℕ) → Halves first now drivers model low high
      → next ≡ set now model (take middle (get_or first model [])) → low < middle → middle < high
      → (Depends (graph_of next drivers) model model → ⊥) → Halves first next drivers model middle high
  halves-second now next low high middle halves made more less not =
      let cut = halves-cut now next low high middle halves made in
      record {
        kept = middle;
        cut = cut;
        below = less;
        within = halves.within;
        fails = λ depends. not (subst (λ (lists : List (List ℕ)). Depends (graph_of lists drivers) model model) (sym cut) depends);
        holds = halves.holds;
      }

  pub halves-end : (now : List (List ℕ)) (low high : ℕ) → Halves first now drivers model low high → high ≤ low + 1 → IsLeast first drivers model low
  halves-end now low high halves near =
      let next : high ≡ suc low = omega (arith, halves.below) in
      record {
        within = omega (arith, halves.below, halves.within);
        back = subst (λ n. Depends (graph_of (cut_at first model n) drivers) model model) next halves.holds;
        before = halves.fails;
      }

  -- no earlier model depends on itself where fewer numbers are kept
  pub halves-earlier : (now next : List (List ℕ)) (low high middle : ℕ) → Halves first now drivers model low high
      → next ≡ set now model (take middle (get_or first model [])) → ((earlier : ℕ) → earlier < model → Depends (graph_of first drivers) earlier earlier → ⊥)
      → (earlier : ℕ) → earlier < model → Depends (graph_of next drivers) earlier earlier → ⊥
  halves-earlier now next low high middle halves made none earlier less depends =
      none earlier less (uncut first drivers model lt middle
      (subst (λ (lists : List (List ℕ)). Depends (graph_of lists drivers) earlier earlier) (halves-cut now next low high middle halves made) depends))

-- what the code reads and writes of the lists
pub list-read : (lists : List (Bor (List ℕ))) (model : ℕ) (list : Bor (List ℕ)) → model < length lists → list ≡ get_or lists model list
    → list.now ≡ get_or (map (λ (l : Bor (List ℕ)). l.now) lists) model []
list-read lists model list lt is =
    ap (λ (l : Bor (List ℕ)). l.now) is ∙ sym (get_or-map (λ (l : Bor (List ℕ)). l.now) lists model list [] lt)

pub list-written : (lists : List (Bor (List ℕ))) (model middle : ℕ) (list : Bor (List ℕ)) (all first : List ℕ) → list.now ≡ take middle all → all ≡ first
    → map (λ (l : Bor (List ℕ)). l.now) (set lists model list) ≡ set (map (λ (l : Bor (List ℕ)). l.now) lists) model (take middle first)
list-written lists model middle list all first is same =
    map-set (λ (l : Bor (List ℕ)). l.now) lists model list
    ∙ ap (λ xs. set (map (λ (l : Bor (List ℕ)). l.now) lists) model xs) (is ∙ ap (take middle) same)

pub model-within : (lists : List (Bor (List ℕ))) (drivers : List (Option ℕ)) (model : ℕ) → IsFirstOnCycle (graph_of (map (λ (l : Bor (List ℕ)). l.now) lists) drivers) model
    → (model < length lists) × (model < length (map (λ (l : Bor (List ℕ)). l.now) lists))
model-within lists drivers model first =
    let now : List (List ℕ) = map (λ (l : Bor (List ℕ)). l.now) lists in
    let one = length-map now (drivers_of drivers) in
    let other = length-map lists (λ (l : Bor (List ℕ)). l.now) in
    (omega (arith, first.within, one, other), omega (arith, first.within, one))
