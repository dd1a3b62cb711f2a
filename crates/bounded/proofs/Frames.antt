-- The frames of a search: their nodes are sound, what they show, and the nodes and clauses of all obligations behind them.
use Rattle.std.proofs.Common.{◌≡◌, ℕ, zero, suc, ◌+◌, ◌-◌, ◌*◌, ◌≤◌, Bool, true, false, cond, List, [], ◌∷◌, ◌++◌, map, fold, length, replicate, set, refl, sym, ap, ◌∙◌, subst, arith, length-append, get_or-set_other}
use Rattle.std.specs.Bool.{IsTrue}
use Rattle.std.proofs.lemmas.Bool.{false≢true}
use Rattle.alternating_theory.specs.Obligations.{Automaton}
use Rattle.clauses.specs.Literals.{clause_within}
use Rattle.clauses.specs.Models.{Assignment}
use Rattle.gates_covers.specs.Greedy.{covers_of}
use Rattle.gates_frames.specs.Frames.{Cone, Frame, blank, first_latch, frame_at, frame_by, literal_at, moved_latch, table_of, with_input, with_latch, written}
use Rattle.gates_frames.specs.Paths.{IsPath, Shows, bits_along, valuation_of}
use Rattle.gates_frames.proofs.FramePaths.{frames-more, frames-path, frames-sound, frames-within, path-shown}
use Rattle.gates_nodes.specs.declared.cover.Cover.{Cover}
use Rattle.gates_nodes.specs.declared.node.Node.{Node}
use Rattle.gates_nodes.specs.declared.node.Node.TheVariants.{Free}
use Rattle.gates_nodes.specs.Folding.{Built, with_node}
use Rattle.gates_nodes.specs.Makes.{AreSound}
use Rattle.gates_nodes.specs.Nodes.{IsEvaluation, Source, no, told, variables_of}
use Rattle.gates_nodes.proofs.Values.{nodes_within-append, variables-more}
use Rattle.gates_order.specs.Depths.{order_of}
use Rattle.gates_theory.proofs.Within.{wider}
use Rattle.netlist.specs.Design.{Design}
use Rattle.netlist.specs.Sound.{table_at}
use Rattle.netlist.specs.declared.latch.Latch.{Latch}
use Rattle.bounded.specs.Places.{place_bits, place_nodes}
use Rattle.bounded.specs.Searches.{asked_of, before_places, literals_of, placed_nodes, search_cone, search_frame}
use Rattle.bounded.proofs.Asking.{AllMet, So, so-places}
use Rattle.bounded.proofs.Blocks.{places-length, places-within}
use Rattle.bounded.proofs.Cones.{Premises, setting}

-- outside the cone all literals are false
no-at : (count k : ℕ) → literal_at 0 (replicate count (no 0)) k ≡ no 0
no-at zero k = refl
no-at (suc count) zero = refl
no-at (suc count) (suc k) = no-at count k

module _ (cone : Cone) (s : ℕ) (outside : cone s ≡ false) where
  abbrev IsNo : Frame → Type 0
  IsNo now = literal_at 0 now.literals s ≡ no 0

  no-written : (now : Frame) (t : ℕ) (built : Built) → IsNo now → IsNo (written cone now t built)
  no-written now t built old = by (cone t) refl
    where
      by : (b : Bool) → cone t ≡ b → IsNo (cond b (record { nodes = built.nodes; literals = set now.literals t built.output }) now)
      by true is = get_or-set_other now.literals t s built.output (no 0) (λ e. false≢true (sym outside ∙ ap cone e ∙ is)) ∙ old
      by false is = old

  no-fold : {X : Type 0} (signal : X → ℕ) (make : Frame → X → Built) (xs : List X) (now : Frame) → IsNo now → IsNo (fold (λ frame x. written cone frame (signal x) (make frame x)) now xs)
  no-fold signal make [] now old = old
  no-fold signal make (x ∷ xs) now old = no-fold signal make xs (written cone now (signal x) (make now x)) (no-written now (signal x) (make now x) old)

  no-frame : (covers : List Cover) (d : Design) (order : List ℕ) (number : ℕ) (make : List Node → Latch → Built) (nodes : List Node) → IsNo (frame_by covers 0 d order cone number make nodes)
  no-frame covers d order number make nodes =
      let start = blank 0 d nodes in
      let inputs = fold (with_input 0 cone number) start d.inputs in
      let latches = fold (with_latch cone make) inputs d.latches in
      no-fold (λ t. (table_at d.tables t).output) (λ now t. table_of covers 0 now.nodes t (table_at d.tables t) (map (literal_at 0 now.literals) (table_at d.tables t).inputs)) order latches
      (no-fold (λ latch. latch.output) (λ now latch. make now.nodes latch) d.latches inputs
      (no-fold (λ signal. signal) (λ now signal. with_node 0 now.nodes (Free number signal)) d.inputs start (no-at d.signals s)))

  no-frames : (covers : List Cover) (d : Design) (order : List ℕ) (number : ℕ) → IsNo (frame_at covers 0 d order cone true [] number)
  no-frames covers d order zero = no-frame covers d order 0 (first_latch 0 true) []
  no-frames covers d order (suc number) =
      no-frame covers d order (suc number) (moved_latch 0 (frame_at covers 0 d order cone true [] number).literals) (frame_at covers 0 d order cone true [] number).nodes

pub literal-outside : (d : Design) (a : Automaton) (p s : ℕ) → search_cone d a s ≡ false → literal_at 0 (literals_of d a p) s ≡ no 0
unfolding search_frame
literal-outside d a p s outside = no-frames (search_cone d a) s outside (covers_of d.tables) d (order_of d.tables) p

module _ (d : Design) (a : Automaton) (on : Premises d a) where
  abbrev covers : List Cover
  covers = covers_of d.tables

  abbrev cone : Cone
  cone = search_cone d a

  pub frame-sound : (p : ℕ) → AreSound 0 (search_frame d a p).nodes
  unfolding search_frame
  frame-sound p = frames-sound covers 0 d (order_of d.tables) cone (setting d a on) true [] refl p

  frame-within : (p : ℕ) → IsTrue (clause_within (variables_of 0 (search_frame d a p).nodes) (literals_of d a p))
  unfolding search_frame
  frame-within p = frames-within covers 0 d (order_of d.tables) cone (setting d a on) true [] refl p

  frame-more : (p : ℕ) → (more : List Node) × ((search_frame d a (suc p)).nodes ≡ (search_frame d a p).nodes ++ more)
  unfolding search_frame
  frame-more p = frames-more covers 0 d (order_of d.tables) cone (setting d a on) true [] refl p

  abbrev pub ShowAll : ℕ → Assignment → List (List Bool) → Type 0
  ShowAll n v path = (p : ℕ) → p ≤ n → Shows 0 cone v (literals_of d a p) (valuation_of path p)

  pub frames-show : (source : Source) (v : Assignment) (n : ℕ) → IsEvaluation covers 0 source v (search_frame d a n).nodes
      → (path : List (List Bool)) × IsPath d true path × (length path ≡ suc n) × ShowAll n v path
  unfolding search_frame
  frames-show source v n holds =
      let found = frames-path covers 0 d (order_of d.tables) cone (setting d a on) true [] refl source v n holds in
      (found.0, found.1, found.2, λ p few. found.3 p (omega (arith, found.2)))

  pub frames-told : (v : Assignment) (n : ℕ) (path : List (List Bool)) → IsPath d true path → length path ≡ suc n
      → IsEvaluation covers 0 (told (bits_along path)) v (search_frame d a n).nodes → ShowAll n v path
  unfolding search_frame
  frames-told v n path is size holds = λ p few.
      path-shown covers 0 d (order_of d.tables) cone (setting d a on) true [] refl v n path is size holds p (omega (arith, size))

  abbrev many : ℕ → ℕ
  many p = variables_of 0 (search_frame d a p).nodes

  more-variables : (gap p : ℕ) → many p ≤ many (gap + p)
  more-variables zero p = let e : 0 + p ≡ p = omega arith in subst (λ k. many p ≤ many k) (sym e) (omega arith)
  more-variables (suc gap) p =
      let next = frame-more (gap + p) in
      let step : many (gap + p) ≤ many (suc (gap + p)) = rw next.1 (variables-more 0 (search_frame d a (gap + p)).nodes next.0) in
      let e : suc gap + p ≡ suc (gap + p) = omega arith in
      subst (λ k. many p ≤ many k) (sym e) (omega (arith, more-variables gap p, step))

  pub literals-within : (n p : ℕ) → p ≤ n → IsTrue (clause_within (many n) (literals_of d a p))
  literals-within n p few =
      let e : (n - p) + p ≡ n = omega arith in
      wider (many p) (many n) (subst (λ k. many p ≤ many k) e (more-variables (n - p) p)) (literals_of d a p) (frame-within p)

  -- the bits of places behind them
  module _ (n : ℕ) where
    abbrev start : List Node
    start = placed_nodes d a n

    pub start-sound : AreSound 0 start
    start-sound =
        nodes_within-append 1 (before_places d a n) (search_frame d a n).nodes (place_nodes a n) (omega arith) (frame-sound n) (places-within a n (before_places d a n))

    pub start-many : before_places d a n + (suc (suc n) * place_bits a + n) ≡ variables_of 0 start
    start-many = omega (arith, length-append (search_frame d a n).nodes (place_nodes a n), places-length a n)

    order-start : many n ≤ variables_of 0 start
    order-start = variables-more 0 (search_frame d a n).nodes (place_nodes a n)

    pub start-within : (p : ℕ) → p ≤ n → IsTrue (clause_within (variables_of 0 start) (literals_of d a p))
    start-within p few = wider (many n) (variables_of 0 start) order-start (literals_of d a p) (literals-within n p few)

    pub start-few : before_places d a n + (suc (suc n) * place_bits a + n) ≤ variables_of 0 start
    start-few = omega (arith, start-many)

    abbrev pub AllAsked : Assignment → Type 0
    AllAsked = AllMet covers a (literals_of d a) n (before_places d a n) d.names start start-sound start-few start-within on.good on.tests

    pub so : So covers a (literals_of d a) n (before_places d a n) d.names start start-sound start-few start-within on.good on.tests (asked_of d a n) AllAsked
    unfolding asked_of
    so = so-places covers a (literals_of d a) n (before_places d a n) d.names start start-sound start-few start-within on.good on.tests
