-- The evaluations of frames are the paths.
use Rattle.std.proofs.Common.{◌≡◌, inl, inr, ℕ, zero, suc, ◌+◌, ◌-◌, ◌<◌, ◌≤◌, ℤ, Bool, true, false, cond, List, [], ◌∷◌, ◌++◌, length, refl, sym, ap, ◌∙◌, subst, arith, length-append}
use Rattle.std.specs.Bool.{IsTrue}
use Rattle.std.specs.List.{All}
use Rattle.std.proofs.lemmas.Bool.{cases_lt}
use Rattle.clauses.specs.Literals.{clause_within, is_within}
use Rattle.clauses.specs.Models.{Assignment, is_true}
use Rattle.netlist.specs.declared.latch.Init.{Init}
use Rattle.netlist.specs.declared.latch.Init.TheVariants as inits
use Rattle.netlist.specs.declared.latch.Latch.{Latch}
use Rattle.netlist.specs.Design.{Design}
use Rattle.netlist.specs.Valuations.{bit, IsInitial, IsStep, IsValuation, MayBegin}
use Rattle.gates_nodes.specs.declared.cover.Cover.{Cover}
use Rattle.gates_nodes.specs.declared.node.Node.{Node}
use Rattle.gates_nodes.specs.declared.node.Node.TheVariants.{Free}
use Rattle.gates_nodes.specs.Folding.{with_node}
use Rattle.gates_nodes.specs.Makes.{AreSound}
use Rattle.gates_nodes.specs.Nodes.{IsEvaluation, Source, told, variables_of}
use Rattle.gates_nodes.proofs.Folds.{makes-no, makes-yes, no-false}
use Rattle.gates_nodes.proofs.Literals.{wider_literal}
use Rattle.gates_nodes.proofs.Making.{makes-literal, makes-node}
use Rattle.gates_nodes.proofs.Values.{before-evaluation, new-value}
use Rattle.gates_frames.specs.Frames.{Cone, Frame, first_by, first_latch, frame_at, literal_at, moved_latch}
use Rattle.gates_frames.specs.Paths.{Begins, IsPath, Shows, ShowsPath, bits_along, valuation_of}
use Rattle.gates_frames.proofs.Shown.{Setting, at_within, frame-grows, frame-shows, shown-is}
use Rattle.gates_frames.proofs.Stages.{AllOf, Made, Ready, all_of}

-- lists with one more
get-front : (path : List (List Bool)) (last : List Bool) (place : ℕ) → place < length path → valuation_of (path ++ last ∷ []) place ≡ valuation_of path place
get-front [] last place below = absurd (omega arith)
get-front (x ∷ path) last zero below = refl
get-front (x ∷ path) last (suc place) below = get-front path last place (omega arith)

get-last : (path : List (List Bool)) (last : List Bool) (place : ℕ) → place ≡ length path → valuation_of (path ++ last ∷ []) place ≡ last
get-last [] last zero e = refl
get-last [] last (suc place) e = absurd (omega arith)
get-last (x ∷ path) last zero e = absurd (omega arith)
get-last (x ∷ path) last (suc place) e = get-last path last place (omega arith)

all_both : {X : Type 0} (P Q : X → Type 0) (xs : List X) → AllOf P xs → AllOf Q xs → AllOf (λ x. P x × Q x) xs
all_both P Q [] a b = tt
all_both P Q (x ∷ xs) a b = ((a.0, b.0), all_both P Q xs a.1 b.1)

all_unit : {X : Type 0} (xs : List X) → AllOf (λ (x : X). Unit {0}) xs
all_unit [] = tt
all_unit (x ∷ xs) = (tt, all_unit xs)

-- the value with which a latch may begin
abbrev Starts : Bool → Init → Bool → Type 0
Starts true init b = MayBegin init b
Starts false init b = Unit {0}

module _ (covers : List Cover) (given : ℕ) (design : Design) (order : List ℕ) (cone : Cone) (setting : Setting covers design order cone) where
  -- a latch that is free, or has its first value
  module _ (floor : ℕ) where
    free-made : (output : ℕ) (now : Frame) → Ready covers given cone floor now → Made covers given cone floor now.nodes (with_node given now.nodes (Free 0 output))
    free-made output now ready =
        let at = suc (variables_of given now.nodes) in (
          λ v. v at,
          makes-node covers given now.nodes (Free 0 output) (λ v. v at) ready.sound refl
              (λ source v before is e. ap (λ k. source 0 output (v (suc k))) e ∙ sym (new-value covers source v given now.nodes (Free 0 output) is)),
        )

    first-by : (kind : Bool) (init : Init) (output : ℕ) (now : Frame) → Ready covers given cone floor now → Made covers given cone floor now.nodes (first_by given kind init now.nodes output)
    first-by true inits.Zero output now ready = (λ v. false, makes-no covers given now.nodes ready.sound)
    first-by true inits.One output now ready = (λ v. true, makes-yes covers given now.nodes ready.sound)
    first-by true inits.Free output now ready = free-made output now ready
    first-by false init output now ready = free-made output now ready

  first-picks : (source : Source) (v : Assignment) (kind : Bool) (init : Init) (output : ℕ) (now : Frame) →
      (b : Bool) × Starts kind init b × (IsEvaluation covers given source v (first_by given kind init now.nodes output).nodes → is_true v (first_by given kind init now.nodes output).output ≡ b)
  first-picks source v true inits.Zero output now = (false, refl, λ is. no-false v given is.yes)
  first-picks source v true inits.One output now = (true, refl, λ is. is.yes)
  first-picks source v true inits.Free output now = (v (suc (variables_of given now.nodes)), tt, λ is. refl)
  first-picks source v false init output now = (v (suc (variables_of given now.nodes)), tt, λ is. refl)

  told-first : (path : List (List Bool)) (v : Assignment) (kind : Bool) (init : Init) (output : ℕ) (now : Frame) → Starts kind init (bit (valuation_of path 0) output) →
      IsEvaluation covers given (told (bits_along path)) v (first_by given kind init now.nodes output).nodes → is_true v (first_by given kind init now.nodes output).output ≡ bit (valuation_of path 0) output
  told-first path v true inits.Zero output now starts is = no-false v given is.yes ∙ sym starts
  told-first path v true inits.One output now starts is = is.yes ∙ sym starts
  told-first path v true inits.Free output now starts is = new-value covers (told (bits_along path)) v given now.nodes (Free 0 output) is
  told-first path v false init output now starts is = new-value covers (told (bits_along path)) v given now.nodes (Free 0 output) is

  module _ (initial : Bool) (nodes : List Node) (sound : AreSound given nodes) where
    abbrev frame : ℕ → Frame
    frame number = frame_at covers given design order cone initial nodes number

    abbrev Closed : Latch → Type 0
    Closed latch = IsTrue (cone latch.output) → IsTrue (cone latch.input)

    abbrev size_of : ℕ → ℕ
    size_of number = variables_of given (frame number).nodes

    abbrev Plain : Latch → Type 0
    Plain latch = Unit {0}

    -- the frames, each behind the one before
    record Facts (number : ℕ) : Type 0 where
      are_sound : AreSound given (frame number).nodes
      names : IsTrue (clause_within (size_of number) (frame number).literals)

    moved-made : (number : ℕ) → Facts number → (latch : Latch) (now : Frame) → Ready covers given cone (size_of number) now →
        Made covers given cone (size_of number) now.nodes (moved_latch given (frame number).literals now.nodes latch)
    moved-made number facts latch now ready =
        let l = literal_at given (frame number).literals latch.input in
        let names = at_within (size_of number) given (frame number).literals latch.input (omega arith) facts.names in
        (λ v. is_true v l, makes-literal covers given now.nodes l (λ v. is_true v l) ready.sound (wider_literal (size_of number) (variables_of given now.nodes) ready.least l names) (λ source v is. refl))

    facts : (number : ℕ) → Facts number
    facts zero =
        let grows = frame-grows covers given design order cone setting 0 (first_latch given initial) nodes Plain
        (λ latch now member ready. first-by (variables_of given nodes) initial latch.init latch.output now ready) sound (all_unit design.latches) in
        record { are_sound = grows.ready.sound; names = grows.ready.names }
    facts (suc number) =
        let before = facts number in
        let grows = frame-grows covers given design order cone setting (suc number) (moved_latch given (frame number).literals) (frame number).nodes Plain
        (λ latch now member ready. moved-made number before latch now ready) before.are_sound (all_unit design.latches) in
        record { are_sound = grows.ready.sound; names = grows.ready.names }

    pub frames-sound : (number : ℕ) → AreSound given (frame number).nodes
    frames-sound number = (facts number).are_sound

    pub frames-within : (number : ℕ) → IsTrue (clause_within (variables_of given (frame number).nodes) (frame number).literals)
    frames-within number = (facts number).names

    pub frames-more : (number : ℕ) → (more : List Node) × ((frame (suc number)).nodes ≡ (frame number).nodes ++ more)
    frames-more number =
        let before = facts number in
        let grows = frame-grows covers given design order cone setting (suc number) (moved_latch given (frame number).literals) (frame number).nodes Plain
        (λ latch now member ready. moved-made number before latch now ready) before.are_sound (all_unit design.latches) in
        (grows.more, grows.grown)

    earlier_holds : (source : Source) (v : Assignment) (number : ℕ) → IsEvaluation covers given source v (frame (suc number)).nodes → IsEvaluation covers given source v (frame number).nodes
    earlier_holds source v number holds =
        let before = facts number in
        let grows = frame-grows covers given design order cone setting (suc number) (moved_latch given (frame number).literals) (frame number).nodes Plain
        (λ latch now member ready. moved-made number before latch now ready) before.are_sound (all_unit design.latches) in
        before-evaluation covers source v given (frame number).nodes grows.more (subst (IsEvaluation covers given source v) grows.grown holds)

    -- from an evaluation to a path
    record PathTo (v : Assignment) (number : ℕ) : Type 0 where
      path : List (List Bool)
      is : IsPath design initial path
      size : length path ≡ suc number
      last : IsValuation design (valuation_of path number)
      shows : ShowsPath covers given design order cone initial nodes v path

    begins-by : (kind : Bool) (first : List Bool) → IsValuation design first → All (λ latch. Starts kind latch.init (bit first latch.output)) design.latches → Begins design kind first
    begins-by true first is starts = record { valuation = is; latches = starts }
    begins-by false first is starts = is

    path-first : (source : Source) (v : Assignment) → IsEvaluation covers given source v (frame 0).nodes → PathTo v 0
    path-first source v holds =
        let shown = frame-shows covers given design order cone setting 0 (first_latch given initial) nodes source v Plain (λ latch b. Starts initial latch.init b) (λ signal b. Unit {0})
        (λ latch now member ready. first-by (variables_of given nodes) initial latch.init latch.output now ready)
        (λ latch now member ready. (let pick = first-picks source v initial latch.init latch.output now in (pick.0, pick.1, λ inside is. pick.2 is)))
        (λ signal now member ready. (v (suc (variables_of given now.nodes)), tt, λ inside is. refl)) sound (all_unit design.latches) holds in
        record {
          path = shown.valuation ∷ [];
          is = record {
            some = omega arith;
            begins = begins-by initial shown.valuation shown.is shown.of_latches;
            steps = λ place below. absurd (omega arith);
          };
          size = refl;
          last = shown.is;
          shows = one_place shown.valuation shown.shows;
        }
      where
        one_place : (first : List Bool) → Shows given cone v (frame 0).literals first → ShowsPath covers given design order cone initial nodes v (first ∷ [])
        one_place first shows zero below = shows
        one_place first shows (suc place) below = absurd (omega arith)

    path-next : (source : Source) (v : Assignment) (number : ℕ) → IsEvaluation covers given source v (frame (suc number)).nodes → PathTo v number → PathTo v (suc number)
    path-next source v number holds before =
        let now_facts = facts number in
        let old = valuation_of before.path number in
        let below : number < length before.path = omega (arith, before.size) in
        let shows_old = before.shows number below in
        let shown = frame-shows covers given design order cone setting (suc number) (moved_latch given (frame number).literals) (frame number).nodes source v Closed (λ latch b. b ≡ bit old latch.input) (λ signal b. Unit {0})
        (λ latch now member ready. moved-made number now_facts latch now ready)
        (λ latch now member ready. (bit old latch.input, refl, λ inside is. shows_old latch.input (member inside)))
        (λ signal now member ready. (v (suc (variables_of given now.nodes)), tt, λ inside is. refl)) now_facts.are_sound (all_of Closed design.latches setting.closed.latches) holds in
        let new = before.path ++ shown.valuation ∷ [] in
        let size : length new ≡ suc (suc number) = omega (arith, length-append before.path (shown.valuation ∷ []), before.size) in
        let front = λ (place : ℕ) (early : place < length before.path). get-front before.path shown.valuation place early in
        let last : valuation_of new (suc number) ≡ shown.valuation = get-last before.path shown.valuation (suc number) (sym before.size) in
        let step : IsStep design old shown.valuation = record { before = before.last; after = shown.is; latches = shown.of_latches } in
        record {
          path = new;
          is = record {
            some = omega (arith, size);
            begins = subst (Begins design initial) (sym (front 0 before.is.some)) before.is.begins;
            steps = λ place later. elim (cases_lt (suc place) (length before.path)) [
              | inl early ↦
                  subst (λ x. IsStep design x (valuation_of new (suc place))) (sym (front place (omega arith)))
                  (subst (IsStep design (valuation_of before.path place)) (sym (front (suc place) early)) (before.is.steps place early))
              | inr late ↦
                  let at : number ≡ place = omega (arith, size, before.size) in
                  subst (λ k. IsStep design (valuation_of new k) (valuation_of new (suc k))) at
                  (subst (λ x. IsStep design x (valuation_of new (suc number))) (sym (front number below)) (subst (IsStep design old) (sym last) step))
            ];
          };
          size = size;
          last = subst (IsValuation design) (sym last) shown.is;
          shows = λ place later. elim (cases_lt place (length before.path)) [
            | inl early ↦ subst (Shows given cone v (frame place).literals) (sym (front place early)) (before.shows place early)
            | inr late ↦
                let at : suc number ≡ place = omega (arith, size, before.size) in
                subst (λ k. Shows given cone v (frame k).literals (valuation_of new k)) at (subst (Shows given cone v (frame (suc number)).literals) (sym last) shown.shows)
          ];
        }

    path-to : (source : Source) (v : Assignment) (number : ℕ) → IsEvaluation covers given source v (frame number).nodes → PathTo v number
    path-to source v zero holds = path-first source v holds
    path-to source v (suc number) holds = path-next source v number holds (path-to source v number (earlier_holds source v number holds))

    pub frames-path : (source : Source) (v : Assignment) (number : ℕ) → IsEvaluation covers given source v (frame number).nodes →
        (path : List (List Bool)) × IsPath design initial path × (length path ≡ suc number) × ShowsPath covers given design order cone initial nodes v path
    frames-path source v number holds = let found = path-to source v number holds in (found.path, found.is, found.size, found.shows)

    -- from a path to what the frames show
    valuation-begins : (kind : Bool) (first : List Bool) → Begins design kind first → IsValuation design first
    valuation-begins true first begins = begins.valuation
    valuation-begins false first begins = begins

    starts-of : (kind : Bool) (first : List Bool) → Begins design kind first → AllOf (λ latch. Starts kind latch.init (bit first latch.output)) design.latches
    starts-of true first begins = all_of (λ latch. MayBegin latch.init (bit first latch.output)) design.latches begins.latches
    starts-of false first begins = all_unit design.latches

    shown-at : (v : Assignment) (path : List (List Bool)) → IsPath design initial path → (place : ℕ) → place < length path →
        IsEvaluation covers given (told (bits_along path)) v (frame place).nodes → Shows given cone v (frame place).literals (valuation_of path place)
    shown-at v path is zero below holds =
        let source = told (bits_along path) in
        let now = valuation_of path 0 in
        let shown = frame-shows covers given design order cone setting 0 (first_latch given initial) nodes source v (λ latch. Starts initial latch.init (bit now latch.output)) (λ latch b. b ≡ bit now latch.output) (λ signal b. b ≡ bit now signal)
        (λ latch frame_now member ready. first-by (variables_of given nodes) initial latch.init latch.output frame_now ready)
        (λ latch frame_now member ready. (bit now latch.output, refl, λ inside built. told-first path v initial latch.init latch.output frame_now member built))
        (λ signal frame_now member ready. (bit now signal, refl, λ inside built. new-value covers source v given frame_now.nodes (Free 0 signal) built)) sound (starts-of initial now is.begins) holds in
        shown-is covers given design order cone setting 0 (first_latch given initial) nodes v (frame 0).literals now (valuation-begins initial now is.begins) shown
    shown-at v path is (suc place) below holds =
        let source = told (bits_along path) in
        let now = valuation_of path (suc place) in
        let old = valuation_of path place in
        let step = is.steps place below in
        let before = shown-at v path is place (omega arith) (earlier_holds source v place holds) in
        let now_facts = facts place in
        let shown = frame-shows covers given design order cone setting (suc place) (moved_latch given (frame place).literals) (frame place).nodes source v (λ latch. Closed latch × (bit now latch.output ≡ bit old latch.input)) (λ latch b. b ≡ bit now latch.output) (λ signal b. b ≡ bit now signal)
        (λ latch frame_now member ready. moved-made place now_facts latch frame_now ready)
        (λ latch frame_now member ready. (bit now latch.output, refl, λ inside built. before latch.input (member.0 inside) ∙ sym member.1))
        (λ signal frame_now member ready. (bit now signal, refl, λ inside built. new-value covers source v given frame_now.nodes (Free (suc place) signal) built)) now_facts.are_sound
        (all_both Closed (λ latch. bit now latch.output ≡ bit old latch.input) design.latches (all_of Closed design.latches setting.closed.latches) (all_of (λ latch. bit now latch.output ≡ bit old latch.input) design.latches step.latches)) holds in
        shown-is covers given design order cone setting (suc place) (moved_latch given (frame place).literals) (frame place).nodes v (frame (suc place)).literals now step.after shown

    holds-back : (source : Source) (v : Assignment) (gap place : ℕ) → IsEvaluation covers given source v (frame (gap + place)).nodes → IsEvaluation covers given source v (frame place).nodes
    holds-back source v zero place holds = let e : 0 + place ≡ place = omega arith in subst (λ k. IsEvaluation covers given source v (frame k).nodes) e holds
    holds-back source v (suc gap) place holds =
        let e : suc gap + place ≡ suc (gap + place) = omega arith in
        holds-back source v gap place (earlier_holds source v (gap + place) (subst (λ k. IsEvaluation covers given source v (frame k).nodes) e holds))

    pub path-shown : (v : Assignment) (number : ℕ) (path : List (List Bool)) → IsPath design initial path → length path ≡ suc number →
        IsEvaluation covers given (told (bits_along path)) v (frame number).nodes → ShowsPath covers given design order cone initial nodes v path
    path-shown v number path is size holds = λ place below.
        let e : number ≡ (number - place) + place = omega arith in
        shown-at v path is place below (holds-back (told (bits_along path)) v (number - place) place (subst (λ k. IsEvaluation covers given (told (bits_along path)) v (frame k).nodes) e holds))
