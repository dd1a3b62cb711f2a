-- Frames that are built one behind another.
use Rattle.std.proofs.Common.{◌≡◌, ◌∙◌, ℕ, suc, ◌+◌, ◌<◌, ◌≤◌, ℤ, true, List, [], ◌∷◌, ◌++◌, map, length, get_or, Some, Ok, refl, sym, ap, arith}
use Rattle.std.specs.Prelude.{slice_get}
use Rattle.std.specs.List.{All, range_with_len}
use Rattle.std.proofs.lemmas.List.Elements.{All-cons, All-nil, All-push}
use Rattle.std.proofs.lemmas.List.FromFn.{get_or-map-range_with_len, length-map-range_with_len, map-range_with_len_more}
use Rattle.clauses.specs.declared.flat.TheConstants.{MOST_VARIABLES}
use Rattle.gates_builder.specs.Adding.{AreOf, Making, with_nodes}
use Rattle.gates_builder.proofs.CubeSteps.{get-is}
use Rattle.gates_builder.proofs.Growing.{all-more}
use Rattle.gates_covers.specs.Greedy.{covers_of}
use Rattle.gates_frames.specs.Frames.{Cone, Frame, frame_at, frame_by, moved_latch}
use Rattle.gates_nodes.specs.Nodes.{variables_of}
use Rattle.gates_order.specs.Depths.{order_of}
use Rattle.gates_unroll.specs.Adding.{AddsFrame}
use Rattle.netlist.specs.Design.{Design}
use Rattle.alternating_theory.specs.Obligations.{Automaton}
use Rattle.bounded.specs.Searches.{before_places, literals_of, search_cone, search_frame}

-- the frames up to one are built
pub record FramesSoFar (frame : ℕ → Frame) (old mid : Making) (frames : List (List ℤ)) (number signals : ℕ) : Type 0 where
  pub making : mid ≡ with_nodes old (frame number).nodes
  pub are : frames ≡ map (λ place. (frame place).literals) (range_with_len 0 (suc number))
  pub of : All (AreOf mid) frames
  pub sizes : All (λ literals. length literals ≡ signals) frames

pub frames-long : (frame : ℕ → Frame) (old mid : Making) (frames : List (List ℤ)) (number signals : ℕ) → FramesSoFar frame old mid frames number signals → number < length frames
frames-long frame old mid frames number signals now =
    let size = ap (λ (l : List (List ℤ)). length l) now.are in
    let count = length-map-range_with_len (λ place. (frame place).literals) 0 (suc number) in
    omega (arith, size, count)

module _ (d : Design) (order : List ℕ) (cone : Cone) (old : Making) where
  abbrev pub at : ℕ → Frame
  at number = frame_at old.covers old.given d order cone true old.nodes number

  pub frames-first : (new : Making) (literals : List ℤ) → AddsFrame old new (at 0) (Ok literals) → length literals ≡ d.signals
      → FramesSoFar at old new (literals ∷ []) 0 d.signals
  frames-first new literals adds size = record {
    making = adds.making;
    are = ap (λ l. l ∷ []) adds.literals;
    of = All-cons (AreOf new) literals [] adds.are (All-nil (AreOf new));
    sizes = All-cons (λ l. length l ≡ d.signals) literals [] size (All-nil (λ l. length l ≡ d.signals));
  }

  module _ (mid : Making) (frames : List (List ℤ)) (number : ℕ) (before : List ℤ) (now : FramesSoFar at old mid frames number d.signals)
      (found : slice_get frames number ≡ Some before) where
    abbrev made : Frame
    made = frame_by mid.covers mid.given d order cone (number + 1) (moved_latch mid.given before) mid.nodes

    before-is : before ≡ (at number).literals
    before-is = sym (get-is frames number before [] found) ∙ ap (λ l. get_or l number []) now.are
        ∙ get_or-map-range_with_len (λ place. (at place).literals) 0 (suc number) number number [] (omega arith) (omega arith)

    made-is : made ≡ at (suc number)
    made-is =
        let next : number + 1 ≡ suc number = omega arith in
        ap (λ m. frame_by m.covers m.given d order cone (number + 1) (moved_latch m.given before) m.nodes) now.making
        ∙ ap (λ l. frame_by old.covers old.given d order cone (number + 1) (moved_latch old.given l) (at number).nodes) before-is
        ∙ ap (λ k. frame_by old.covers old.given d order cone k (moved_latch old.given (at number).literals) (at number).nodes) next

    pub frames-next : (new : Making) (literals : List ℤ) → AddsFrame mid new made (Ok literals) → length literals ≡ d.signals
        → FramesSoFar at old new (frames ++ literals ∷ []) (number + 1) d.signals
    frames-next new literals adds size =
        let next : suc number ≡ number + 1 = omega arith in
        let more : suc number + 1 ≡ suc (number + 1) = omega arith in
        record {
          making = adds.making ∙ ap (λ m. with_nodes m made.nodes) now.making ∙ ap (λ (f : Frame). with_nodes old f.nodes) made-is ∙ ap (λ k. with_nodes old (at k).nodes) next;
          are = ap (λ l. l ++ literals ∷ []) now.are ∙ ap (λ l. map (λ place. (at place).literals) (range_with_len 0 (suc number)) ++ l ∷ []) (adds.literals ∙ ap (λ (f : Frame). f.literals) made-is)
              ∙ sym (map-range_with_len_more (λ place. (at place).literals) 0 (suc number) (suc number) (omega arith))
              ∙ ap (λ k. map (λ place. (at place).literals) (range_with_len 0 k)) more;
          of = All-push (AreOf new) frames literals (λ k e low. all-more mid new (get_or frames k e) adds.more (now.of k e low)) adds.are;
          sizes = All-push (λ l. length l ≡ d.signals) frames literals now.sizes size;
        }

    pub next-large : (last : ℕ) → variables_of old.given (at (suc number)).nodes ≤ variables_of old.given (at last).nodes
        → MOST_VARIABLES < variables_of mid.given made.nodes → MOST_VARIABLES < variables_of old.given (at last).nodes
    next-large last more large =
        let same = ap (λ (f : Frame). variables_of mid.given f.nodes) made-is in
        let given = ap (λ (m : Making). variables_of m.given (at (suc number)).nodes) now.making in
        omega (arith, more, large, same, given)

-- the frames of a search
pub search-frame-is : (d : Design) (a : Automaton) (p : ℕ) → frame_at (covers_of d.tables) 0 d (order_of d.tables) (search_cone d a) true [] p ≡ search_frame d a p
unfolding search_frame
search-frame-is d a p = refl

map-same : (f g : ℕ → List ℤ) → ((p : ℕ) → f p ≡ g p) → (xs : List ℕ) → map f xs ≡ map g xs
map-same f g same [] = refl
map-same f g same (x ∷ xs) = ap (λ l. l ∷ map f xs) (same x) ∙ ap (λ l. g x ∷ l) (map-same f g same xs)

-- they are built over a cone that has the same signals
module _ (d : Design) (a : Automaton) (cone : Cone) (builder : Making) (order : List ℕ) (begins : builder ≡ record { given = 0; covers = covers_of d.tables; nodes = [] })
    (ordered : order ≡ order_of d.tables)
    (same : (p : ℕ) → frame_at (covers_of d.tables) 0 d (order_of d.tables) cone true [] p ≡ frame_at (covers_of d.tables) 0 d (order_of d.tables) (search_cone d a) true [] p) where
  pub frames-are : (p : ℕ) → frame_at builder.covers builder.given d order cone true builder.nodes p ≡ search_frame d a p
  frames-are p =
      ap (λ m. frame_at m.covers m.given d order cone true m.nodes p) begins ∙ ap (λ o. frame_at (covers_of d.tables) 0 d o cone true [] p) ordered
      ∙ same p ∙ search-frame-is d a p

  pub nodes-are : (n : ℕ) → with_nodes builder (frame_at builder.covers builder.given d order cone true builder.nodes n).nodes
      ≡ record { given = 0; covers = covers_of d.tables; nodes = (search_frame d a n).nodes }
  nodes-are n = ap (λ (f : Frame). with_nodes builder f.nodes) (frames-are n) ∙ ap (λ m. with_nodes m (search_frame d a n).nodes) begins

  pub literals-are : (xs : List ℕ) → map (λ p. (frame_at builder.covers builder.given d order cone true builder.nodes p).literals) xs ≡ map (literals_of d a) xs
  literals-are xs =
      map-same (λ p. (frame_at builder.covers builder.given d order cone true builder.nodes p).literals) (literals_of d a) (λ p. ap (λ (f : Frame). f.literals) (frames-are p)) xs

  pub many-are : (n : ℕ) → variables_of builder.given (frame_at builder.covers builder.given d order cone true builder.nodes n).nodes ≡ before_places d a n
  many-are n = ap (λ (f : Frame). variables_of builder.given f.nodes) (frames-are n) ∙ ap (λ m. variables_of m.given (search_frame d a n).nodes) begins
