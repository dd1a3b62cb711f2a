-- Free nodes that are added one behind another.
use Rattle.std.proofs.Common.{◌≡◌, ℕ, ◌+◌, ◌<◌, ◌≤◌, ℤ, List, [], ◌∷◌, ◌++◌, Err, Ok, refl, sym, ap, ◌∙◌, subst, arith, length-append}
use Rattle.std.specs.List.{flat_map, range_with_len}
use Rattle.std.specs.Prelude.{Result}
use Rattle.clauses.specs.declared.flat.CnfFault.{CnfFault}
use Rattle.clauses.specs.declared.flat.TheConstants.{MOST_VARIABLES}
use Rattle.gates_builder.specs.Adding.{Adds, Making, with_nodes}
use Rattle.gates_nodes.specs.declared.node.Node.{Node}
use Rattle.gates_nodes.specs.Folding.{with_node}
use Rattle.gates_nodes.specs.Nodes.{variables_of}
use Rattle.bounded.specs.Adding.{Appends, Frees}
use Rattle.bounded.proofs.Appending.{Left, appends-first, appends-then, left-end, left-fail, left-start, left-step}

pub nodes-grow : (given : ℕ) (xs ys : List Node) → variables_of given xs ≤ variables_of given (xs ++ ys)
nodes-grow given xs ys = omega (arith, length-append xs ys)

kept-more : (old mid new : Making) → mid ≡ with_nodes old mid.nodes → new ≡ with_nodes mid new.nodes → new ≡ with_nodes old new.nodes
kept-more old mid new one two = two ∙ ap (λ m. with_nodes m new.nodes) one

as-given : (old mid new : Making) (more : List Node) (result : Result (Unit {0}) CnfFault) → mid ≡ with_nodes old mid.nodes
    → Appends (variables_of mid.given) MOST_VARIABLES mid.nodes new.nodes more result → Appends (variables_of old.given) MOST_VARIABLES mid.nodes new.nodes more result
as-given old mid new more result kept adds =
    let given : mid.given ≡ old.given = ap (λ m. m.given) kept in
    subst (λ g. Appends (variables_of g) MOST_VARIABLES mid.nodes new.nodes more result) given adds

-- a node is added
pub frees-node : (old new : Making) (node : Node) (l : ℤ) → Adds old new (with_node old.given old.nodes node) (Ok l) → Frees old new (node ∷ []) (Ok tt)
frees-node old new node l adds =
    let nodes : new.nodes ≡ old.nodes ++ node ∷ [] = ap (λ m. m.nodes) adds.making in
    record {
      kept = adds.making ∙ ap (with_nodes old) (sym nodes);
      adds = record { ok = nodes; large = tt };
    }

pub frees-no_node : (old new : Making) (node : Node) (fault : CnfFault) → Adds old new (with_node old.given old.nodes node) (Err fault) → Frees old new (node ∷ []) (Err fault)
frees-no_node old new node fault failed = record { kept = tt; adds = record { ok = tt; large = failed.large } }

-- nodes for the numbers of a range, as far as they are added
pub record FreesLeft (f : ℕ → List Node) (old mid : Making) (i n : ℕ) : Type 0 where
  pub kept : mid ≡ with_nodes old mid.nodes
  pub left : Left f old.nodes mid.nodes i n

module _ (f : ℕ → List Node) (n : ℕ) where
  pub frees-start : (old : Making) → FreesLeft f old old 0 n
  frees-start old = record { kept = refl; left = left-start (variables_of old.given) MOST_VARIABLES (nodes-grow old.given) f n old.nodes }

  pub frees-step : (old mid new : Making) (i : ℕ) → i < n → FreesLeft f old mid i n → Frees mid new (f i) (Ok tt) → FreesLeft f old new (i + 1) n
  frees-step old mid new i low before frees = record {
    kept = kept-more old mid new before.kept frees.kept;
    left = left-step (variables_of old.given) MOST_VARIABLES (nodes-grow old.given) f n old.nodes mid.nodes new.nodes i low before.left
        (as-given old mid new (f i) (Ok tt) before.kept frees.adds);
  }

  pub frees-fail : (old mid new : Making) (i : ℕ) (fault : CnfFault) → i < n → FreesLeft f old mid i n → Frees mid new (f i) (Err fault)
      → Frees old new (flat_map f (range_with_len 0 n)) (Err fault)
  frees-fail old mid new i fault low before failed = record {
    kept = tt;
    adds = left-fail (variables_of old.given) MOST_VARIABLES (nodes-grow old.given) f n old.nodes mid.nodes new.nodes i fault low before.left
        (as-given old mid new (f i) (Err fault) before.kept failed.adds);
  }

  pub frees-end : (old mid : Making) (i : ℕ) → n ≤ i → i ≤ n → FreesLeft f old mid i n → Frees old mid (flat_map f (range_with_len 0 n)) (Ok tt)
  frees-end old mid i low high before = record {
    kept = before.kept;
    adds = left-end (variables_of old.given) MOST_VARIABLES (nodes-grow old.given) f n old.nodes mid.nodes i low high before.left;
  }

-- one part behind the other
pub frees-then : (old mid new : Making) (first more : List Node) (result : Result (Unit {0}) CnfFault) → Frees old mid first (Ok tt) → Frees mid new more result
    → Frees old new (first ++ more) result
frees-then old mid new first more (Ok other) one two = record {
  kept = kept-more old mid new one.kept two.kept;
  adds = appends-then (variables_of old.given) MOST_VARIABLES (nodes-grow old.given) old.nodes mid.nodes new.nodes first more (Ok other) one.adds
      (as-given old mid new more (Ok other) one.kept two.adds);
}
frees-then old mid new first more (Err fault) one two = record {
  kept = tt;
  adds = appends-then (variables_of old.given) MOST_VARIABLES (nodes-grow old.given) old.nodes mid.nodes new.nodes first more (Err fault) one.adds
      (as-given old mid new more (Err fault) one.kept two.adds);
}

pub frees-first : (old new : Making) (first more : List Node) (fault : CnfFault) → Frees old new first (Err fault) → Frees old new (first ++ more) (Err fault)
frees-first old new first more fault failed =
    record { kept = tt; adds = appends-first (variables_of old.given) MOST_VARIABLES (nodes-grow old.given) old.nodes new.nodes first more fault failed.adds }
