-- Signals that are written one behind another.
use Rattle.std.proofs.Common.{◌≡◌, ℕ, ◌+◌, ◌<◌, ◌≤◌, ℤ, List, [], ◌∷◌, drop, fold, get_or, length, Err, Ok, sym, ap, ◌∙◌, subst, arith}
use Rattle.std.specs.Prelude.{OnOk, Result}
use Rattle.std.proofs.lemmas.List.{drop_more}
use Rattle.clauses.specs.declared.flat.CnfFault.{CnfFault}
use Rattle.gates_nodes.specs.declared.cover.Cover.{Cover}
use Rattle.gates_nodes.specs.declared.node.Node.{Node}
use Rattle.gates_nodes.specs.Nodes.{variables_of}
use Rattle.gates_builder.specs.Adding.{AreOf, Making, with_nodes}
use Rattle.gates_frames.specs.Frames.{Frame}
use Rattle.gates_unroll.specs.Adding.{frame_of, Writes}

-- what holds where a call succeeds has its consequences there
on_ok-then : (result : Result (Unit {0}) CnfFault) (P Q : Type 0) → (P → Q) → OnOk result P → OnOk result Q
on_ok-then (Ok value) P Q then holds = then holds
on_ok-then (Err fault) P Q then holds = tt

-- what was written behind nodes that were added
pub writes-from : (old mid new : Making) (after : List ℤ) (frame : List Cover → ℕ → Frame) (result : Result (Unit {0}) CnfFault) → mid ≡ with_nodes old mid.nodes
    → variables_of old.given old.nodes ≤ variables_of mid.given mid.nodes → Writes mid new after (frame mid.covers mid.given) result → Writes old new after (frame old.covers old.given) result
writes-from old mid new after frame result kept grown writes =
    let here = subst (λ (m : Making). Writes m new after (frame m.covers m.given) result) kept writes in
    record {
      making = here.making;
      literals = here.literals;
      are = here.are;
      more = on_ok-then result (variables_of mid.given mid.nodes ≤ variables_of new.given new.nodes) (variables_of old.given old.nodes ≤ variables_of new.given new.nodes) (λ more. omega (arith, grown, more)) writes.more;
      large = here.large;
    }

pub kept-by : (old new : Making) (frame : Frame) → new ≡ with_nodes old frame.nodes → new ≡ with_nodes old new.nodes
kept-by old new frame e = e ∙ ap (with_nodes old) (sym (ap (λ m. m.nodes) e))

pub frame-is : (frame : Frame) (nodes : List Node) (literals : List ℤ) → nodes ≡ frame.nodes → literals ≡ frame.literals → record { nodes = nodes; literals = literals } ≡ frame
frame-is frame nodes literals e f = ap (λ n. record { nodes = n; literals = literals }) e ∙ ap (λ l. record { nodes = frame.nodes; literals = l }) f

-- some of several things are written: what is left of them gives the whole
pub record SoFar {X : Type 0} (step : Frame → X → Frame) (old mid : Making) (literals : List ℤ) (left : List X) (whole : Frame) : Type 0 where
  pub kept : mid ≡ with_nodes old mid.nodes
  pub more : variables_of old.given old.nodes ≤ variables_of mid.given mid.nodes
  pub are : AreOf mid literals
  pub so_far : fold step (frame_of mid literals) left ≡ whole

-- no step takes nodes away
abbrev pub Grows : {X : Type 0} → ℕ → (Frame → X → Frame) → Type 0
Grows {X} given step = (now : Frame) (x : X) → variables_of given now.nodes ≤ variables_of given (step now x).nodes

pub more-fold : {X : Type 0} (given : ℕ) (step : Frame → X → Frame) → Grows given step → (now : Frame) (xs : List X) → variables_of given now.nodes ≤ variables_of given (fold step now xs).nodes
more-fold given step grows now [] = omega arith
more-fold given step grows now (x ∷ xs) = omega (arith, grows now x, more-fold given step grows (step now x) xs)

pub so_far-step : {X : Type 0} (step : Frame → X → Frame) (old mid new : Making) (literals after : List ℤ) (x : X) (left : List X) (whole : Frame)
    → SoFar step old mid literals (x ∷ left) whole → Writes old new after (step (frame_of mid literals) x) (Ok tt) → SoFar step old new after left whole
so_far-step step old mid new literals after x left whole before writes =
    let next = step (frame_of mid literals) x in
    record {
      kept = kept-by old new next writes.making;
      more = writes.more;
      are = writes.are;
      so_far = ap (λ f. fold step f left) (frame-is next new.nodes after (ap (λ m. m.nodes) writes.making) writes.literals) ∙ before.so_far;
    }

pub so_far-fails : {X : Type 0} (step : Frame → X → Frame) (old mid new : Making) (literals after : List ℤ) (x : X) (left : List X) (whole : Frame) (fault : CnfFault)
    → Grows old.given step → SoFar step old mid literals (x ∷ left) whole → Writes old new after (step (frame_of mid literals) x) (Err fault) → Writes old new after whole (Err fault)
so_far-fails step old mid new literals after x left whole fault grows before writes =
    let next = step (frame_of mid literals) x in
    let more = more-fold old.given step grows next left in
    let last = ap (λ (f : Frame). variables_of old.given f.nodes) before.so_far in
    record {
      making = tt;
      literals = tt;
      are = tt;
      more = tt;
      large = λ is. (let large = writes.large is in omega (arith, more, last, large));
    }

pub so_far-done : {X : Type 0} (step : Frame → X → Frame) (old mid : Making) (literals : List ℤ) (left : List X) (whole : Frame) → left ≡ [] → SoFar step old mid literals left whole
    → Writes old mid literals whole (Ok tt)
so_far-done {X} step old mid literals left whole none before =
    let last : frame_of mid literals ≡ whole = sym (ap (λ xs. fold step (frame_of mid literals) xs) none) ∙ before.so_far in
    record {
      making = before.kept ∙ ap (λ (f : Frame). with_nodes old f.nodes) last;
      literals = ap (λ (f : Frame). f.literals) last;
      are = before.are;
      more = before.more;
      large = tt;
    }

-- the same where the things stand in a list, and the step was that of the nodes that there were
pub so_far-next : {X : Type 0} (step : List Cover → ℕ → Frame → X → Frame) (old mid new : Making) (literals after : List ℤ) (xs : List X) (i : ℕ) (d : X) (whole : Frame) → i < length xs
    → SoFar (step old.covers old.given) old mid literals (drop i xs) whole → Writes mid new after (step mid.covers mid.given (frame_of mid literals) (get_or xs i d)) (Ok tt)
    → SoFar (step old.covers old.given) old new after (drop (i + 1) xs) whole
so_far-next step old mid new literals after xs i d whole lt before writes =
    let x = get_or xs i d in
    let here = subst (λ left. SoFar (step old.covers old.given) old mid literals left whole) (drop_more xs i d lt) before in
    so_far-step (step old.covers old.given) old mid new literals after x (drop (i + 1) xs) whole here
    (writes-from old mid new after (λ covers given. step covers given (frame_of mid literals) x) (Ok tt) before.kept before.more writes)

pub so_far-err : {X : Type 0} (step : List Cover → ℕ → Frame → X → Frame) (old mid new : Making) (literals after : List ℤ) (xs : List X) (i : ℕ) (d : X) (whole : Frame) (fault : CnfFault)
    → i < length xs → Grows old.given (step old.covers old.given) → SoFar (step old.covers old.given) old mid literals (drop i xs) whole
    → Writes mid new after (step mid.covers mid.given (frame_of mid literals) (get_or xs i d)) (Err fault) → Writes old new after whole (Err fault)
so_far-err step old mid new literals after xs i d whole fault lt grows before writes =
    let x = get_or xs i d in
    let here = subst (λ left. SoFar (step old.covers old.given) old mid literals left whole) (drop_more xs i d lt) before in
    so_far-fails (step old.covers old.given) old mid new literals after x (drop (i + 1) xs) whole fault grows here
    (writes-from old mid new after (λ covers given. step covers given (frame_of mid literals) x) (Err fault) before.kept before.more writes)

-- what is written behind what was written
pub writes-then : {X : Type 0} (step : ℕ → Frame → X → Frame) (old mid new : Making) (between after : List ℤ) (first : Frame) (xs : List X) (result : Result (Unit {0}) CnfFault)
    → Writes old mid between first (Ok tt) → Writes mid new after (fold (step mid.given) (frame_of mid between) xs) result → Writes old new after (fold (step old.given) first xs) result
writes-then step old mid new between after first xs result one two =
    let here = writes-from old mid new after (λ covers given. fold (step given) (frame_of mid between) xs) result (kept-by old mid first one.making) one.more two in
    subst (λ f. Writes old new after (fold (step old.given) f xs) result) (frame-is first mid.nodes between (ap (λ m. m.nodes) one.making) one.literals) here

-- where the first part fails
pub writes-fail : (old new : Making) (after : List ℤ) (part whole : Frame) (fault : CnfFault) → variables_of old.given part.nodes ≤ variables_of old.given whole.nodes
    → Writes old new after part (Err fault) → Writes old new after whole (Err fault)
writes-fail old new after part whole fault more writes =
    record { making = tt; literals = tt; are = tt; more = tt; large = λ is. (let large = writes.large is in omega (arith, more, large)) }
