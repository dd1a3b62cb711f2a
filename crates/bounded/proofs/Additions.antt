-- Literals and clauses that are added one behind another.
use Rattle.std.proofs.Common.{◌≡◌, ℕ, ◌+◌, ◌-◌, ◌<◌, ◌≤◌, inl, inr, ℤ, neg_ℤ, List, [], ◌∷◌, ◌++◌, fold, length, Err, Ok, refl, sym, ap, ◌∙◌, subst, arith}
use Rattle.std.specs.List.{range_with_len}
use Rattle.std.specs.Prelude.{Result}
use Rattle.clauses.specs.declared.flat.CnfFault.{CnfFault}
use Rattle.clauses.specs.Literals.{clause_words}
use Rattle.gates_builder.specs.Adding.{Adds, Making, with_nodes}
use Rattle.gates_builder.proofs.Growing.{adds-as, adds-fails}
use Rattle.gates_builder.proofs.Loops.{adds-from}
use Rattle.gates_letters.specs.Extending.{Extends, extends-same}
use Rattle.gates_letters.proofs.Growing.{extends-then, more-extends}
use Rattle.gates_nodes.specs.declared.node.Node.{Node}
use Rattle.gates_nodes.specs.Folding.{Built}
use Rattle.gates_nodes.specs.Nodes.{variables_of}
use Rattle.gates_theory.specs.Sizes.{IsTooLarge}
use Rattle.gates_theory.proofs.Sizes.{words-append}
use Rattle.alternating_theory.specs.Obligations.{Automaton}
use Rattle.bounded.specs.Adding.{Asks, Puts}
use Rattle.bounded.specs.Obligations.{Asked, with_clause, with_obligation, with_place}
use Rattle.bounded.proofs.Appending.{range-next, range-none, range-whole}
use Rattle.bounded.proofs.Growing.{extends-fold, extends-with_obligation, extends-with_place}

pub words-grow : (xs ys : List (List ℤ)) → clause_words xs ≤ clause_words (xs ++ ys)
words-grow xs ys = omega (arith, words-append xs ys)

pub kept-by : (old new : Making) (nodes : List Node) → new ≡ with_nodes old nodes → new ≡ with_nodes old new.nodes
kept-by old new nodes e = e ∙ ap (with_nodes old) (sym (ap (λ m. m.nodes) e))

-- no variable is given
pub at-zero : (old new : Making) (built : ℕ → Built) (result : Result ℤ CnfFault) → old.given ≡ 0 → Adds old new (built old.given) result → Adds old new (built 0) result
at-zero old new built result given adds = subst (λ g. Adds old new (built g) result) given adds

pub zero-still : (old mid : Making) (nodes : List Node) → old.given ≡ 0 → mid ≡ with_nodes old nodes → mid.given ≡ 0
zero-still old mid nodes given kept = ap (λ m. m.given) kept ∙ given

-- the variables that there were are some of those that there are
pub more-still : (old mid : Making) (nodes : List Node) → Extends old.nodes nodes → mid ≡ with_nodes old nodes → variables_of old.given old.nodes ≤ variables_of mid.given mid.nodes
more-still old mid nodes extends kept =
    let more = more-extends old.given old.nodes nodes extends in
    let same = ap (λ (m : Making). variables_of m.given m.nodes) kept in
    omega (arith, more, same)

-- a literal that is made of one that was made before
pub adds-behind : (old mid new : Making) (first : Built) (second : ℤ → List Node → Built) (l : ℤ) (result : Result ℤ CnfFault)
    → Adds old mid first (Ok l) → Adds mid new (second l mid.nodes) result → Adds old new (second first.output first.nodes) result
adds-behind old mid new first second l result one two =
    let start : mid.nodes ≡ first.nodes = ap (λ m. m.nodes) one.making in
    let same : second l mid.nodes ≡ second first.output first.nodes = ap (second l) start ∙ ap (λ x. second x first.nodes) one.output in
    adds-as old new (second l mid.nodes) (second first.output first.nodes) result same
    (adds-from old mid new (λ given. second l mid.nodes) result (kept-by old mid first.nodes one.making) two)

-- where the one before fails, so does the whole
pub adds-front : (old new : Making) (first whole : Built) (fault : CnfFault) → Extends first.nodes whole.nodes → Adds old new first (Err fault) → Adds old new whole (Err fault)
adds-front old new first whole fault extends failed = adds-fails old new first whole fault (more-extends old.given first.nodes whole.nodes extends) failed

-- what is asked grows
too-large-more : (part whole : Asked) → variables_of 0 part.nodes ≤ variables_of 0 whole.nodes → clause_words part.clauses ≤ clause_words whole.clauses
    → IsTooLarge (variables_of 0 part.nodes) part.clauses → IsTooLarge (variables_of 0 whole.nodes) whole.clauses
too-large-more part whole nodes words (inl many) = inl (omega (arith, nodes, many))
too-large-more part whole nodes words (inr many) = inr (omega (arith, words, many))

pub record StepGrows (step : Asked → ℕ → Asked) : Type 0 where
  pub nodes : (now : Asked) (x : ℕ) → Extends now.nodes (step now x).nodes
  pub words : (now : Asked) (x : ℕ) → clause_words now.clauses ≤ clause_words (step now x).clauses

words-fold : (step : Asked → ℕ → Asked) → StepGrows step → (xs : List ℕ) (now : Asked) → clause_words now.clauses ≤ clause_words (fold step now xs).clauses
words-fold step grows [] now = omega arith
words-fold step grows (x ∷ xs) now = omega (arith, grows.words now x, words-fold step grows xs (step now x))

module _ (a : Automaton) (frames : ℕ → List ℤ) (n before : ℕ) where
  pub obligation-grows : (p : ℕ) → StepGrows (with_obligation a frames n before p)
  obligation-grows p = record {
    nodes = extends-with_obligation a frames n before p;
    words = λ now q. words-grow now.clauses _;
  }

  pub place-grows : StepGrows (with_place a frames n before)
  place-grows = record {
    nodes = extends-with_place a frames n before;
    words = λ now p. words-fold (with_obligation a frames n before p) (obligation-grows p) (range_with_len 0 (length a.obligations)) now;
  }

-- a clause takes a literal that was made
pub asks-clause : (old mid : Making) (before after : List (List ℤ)) (owed l : ℤ) (built : Built) (result : Result (Unit {0}) CnfFault)
    → Adds old mid built (Ok l) → Puts before after ((neg_ℤ owed ∷ l ∷ []) ∷ []) result
    → Asks old mid after (with_clause (record { nodes = old.nodes; clauses = before }) owed built) result
asks-clause old mid before after owed l built (Ok other) one two =
    record { making = one.making; clauses = two.ok ∙ ap (λ x. before ++ (neg_ℤ owed ∷ x ∷ []) ∷ []) one.output; large = tt }
asks-clause old mid before after owed l built (Err fault) one two =
    let same = ap (λ x. clause_words (before ++ (neg_ℤ owed ∷ x ∷ []) ∷ [])) one.output in
    record { making = tt; clauses = tt; large = λ e. inr (let many = two.large e in omega (arith, many, same)) }

pub asks-none : (old new : Making) (before after : List (List ℤ)) (owed : ℤ) (built : Built) (fault : CnfFault) → old.given ≡ 0 → Adds old new built (Err fault)
    → Asks old new after (with_clause (record { nodes = old.nodes; clauses = before }) owed built) (Err fault)
asks-none old new before after owed built fault given failed =
    let same = ap (λ g. variables_of g built.nodes) given in
    record { making = tt; clauses = tt; large = λ e. inl (let many = failed.large e in omega (arith, many, same)) }

-- some steps of a fold are done: what is left of them gives the whole
pub record SoFar (step : Asked → ℕ → Asked) (old mid : Making) (clauses : List (List ℤ)) (i n : ℕ) (start : Asked) : Type 0 where
  pub kept : mid ≡ with_nodes old mid.nodes
  pub extends : Extends old.nodes mid.nodes
  pub left : fold step (record { nodes = mid.nodes; clauses = clauses }) (range_with_len i (n - i)) ≡ fold step start (range_with_len 0 n)

asked-is : (asked : Asked) (nodes : List Node) (clauses : List (List ℤ)) → nodes ≡ asked.nodes → clauses ≡ asked.clauses → record { nodes = nodes; clauses = clauses } ≡ asked
asked-is asked nodes clauses e f = ap (λ n. record { nodes = n; clauses = clauses }) e ∙ ap (λ c. record { nodes = asked.nodes; clauses = c }) f

module _ (step : Asked → ℕ → Asked) (grows : StepGrows step) (n : ℕ) where
  pub so_far-start : (old : Making) (clauses : List (List ℤ)) → SoFar step old old clauses 0 n (record { nodes = old.nodes; clauses = clauses })
  so_far-start old clauses = record {
    kept = refl;
    extends = extends-same old.nodes;
    left = ap (fold step (record { nodes = old.nodes; clauses = clauses })) (range-whole n);
  }

  here : (old mid : Making) (clauses : List (List ℤ)) (i : ℕ) (start : Asked) → i < n → SoFar step old mid clauses i n start
      → fold step (step (record { nodes = mid.nodes; clauses = clauses }) i) (range_with_len (i + 1) (n - (i + 1))) ≡ fold step start (range_with_len 0 n)
  here old mid clauses i start low before = sym (ap (fold step (record { nodes = mid.nodes; clauses = clauses })) (range-next i n low)) ∙ before.left

  pub so_far-step : (old mid new : Making) (clauses after : List (List ℤ)) (i : ℕ) (start : Asked) → i < n → SoFar step old mid clauses i n start
      → Asks mid new after (step (record { nodes = mid.nodes; clauses = clauses }) i) (Ok tt) → SoFar step old new after (i + 1) n start
  so_far-step old mid new clauses after i start low before asks =
      let now : Asked = record { nodes = mid.nodes; clauses = clauses } in
      let next = step now i in
      let nodes : new.nodes ≡ next.nodes = ap (λ m. m.nodes) asks.making in
      record {
        kept = kept-by old new next.nodes (asks.making ∙ ap (λ m. with_nodes m next.nodes) before.kept);
        extends = subst (λ ns. Extends old.nodes ns) (sym nodes) (extends-then old.nodes mid.nodes next.nodes before.extends (grows.nodes now i));
        left = ap (λ x. fold step x (range_with_len (i + 1) (n - (i + 1)))) (asked-is next new.nodes after nodes asks.clauses) ∙ here old mid clauses i start low before;
      }

  pub so_far-fail : (old mid new : Making) (clauses after : List (List ℤ)) (i : ℕ) (start : Asked) (fault : CnfFault) → i < n → SoFar step old mid clauses i n start
      → Asks mid new after (step (record { nodes = mid.nodes; clauses = clauses }) i) (Err fault) → Asks old new after (fold step start (range_with_len 0 n)) (Err fault)
  so_far-fail old mid new clauses after i start fault low before failed =
      let next = step (record { nodes = mid.nodes; clauses = clauses }) i in
      let rest = range_with_len (i + 1) (n - (i + 1)) in
      let whole = fold step start (range_with_len 0 n) in
      let is = here old mid clauses i start low before in
      let extends = extends-fold step grows.nodes rest next in
      let more = more-extends 0 next.nodes (fold step next rest).nodes extends in
      let words = words-fold step grows rest next in
      record {
        making = tt;
        clauses = tt;
        large = λ e. subst (λ (x : Asked). IsTooLarge (variables_of 0 x.nodes) x.clauses) is (too-large-more next (fold step next rest) more words (failed.large e));
      }

  pub so_far-end : (old mid : Making) (clauses : List (List ℤ)) (i : ℕ) (start : Asked) → n ≤ i → i ≤ n → SoFar step old mid clauses i n start
      → Asks old mid clauses (fold step start (range_with_len 0 n)) (Ok tt)
  so_far-end old mid clauses i start low high before =
      let e : i ≡ n = omega arith in
      let now : Asked = record { nodes = mid.nodes; clauses = clauses } in
      let last : now ≡ fold step start (range_with_len 0 n) = sym (ap (fold step now) (ap (λ k. range_with_len k (n - k)) e ∙ range-none n)) ∙ before.left in
      record {
        making = before.kept ∙ ap (λ (x : Asked). with_nodes old x.nodes) last;
        clauses = ap (λ (x : Asked). x.clauses) last;
        large = tt;
      }
