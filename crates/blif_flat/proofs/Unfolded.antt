-- The valuations of the flat netlist are the instance trees of its hierarchy.
use Rattle.std.proofs.Common.{◌≡◌, ℕ, inl, inr, Bool, false, List, [], ◌∷◌, ◌++◌, length, map, All, refl, sym, ap, ◌∙◌, subst}
use Rattle.std.specs.List.{flat_map}
use Rattle.std.proofs.lemmas.List.Elements.{All-nil, All-cons, All-head, All-tail, All-append}
use Rattle.netlist.specs.declared.latch.Latch.{Latch}
use Rattle.netlist.specs.declared.table.Table.{Table}
use Rattle.netlist.specs.Valuations.{bit, output_in, output_by, MayBegin, IsValuation, IsInitial, IsStep}
use Rattle.blif_flattening.specs.declared.model.Item.TheVariants.{Own}
use Rattle.blif_flattening.specs.Hierarchy.{Path, Placed, items_at, flat_lines, IsInstance}
use Rattle.blif_flattening.specs.Members.{Among}
use Rattle.blif_flattening.specs.Numbers.{signals}
use Rattle.blif_flattening.specs.Trees.{IsWhole, IsFlat, IsOfMentions, folded}
use Rattle.blif_flattening.proofs.Lines.{has_line, line_of}
use Rattle.blif_flattening.proofs.Unfolding.{IsTree-unfold_of, IsFlat-from_tree, IsFlat-folded, Same-folded, same_valuations}
use Rattle.blif_model.specs.declared.line.LineKind.{LineKind}
use Rattle.blif_model.specs.declared.line.LineKind.TheVariants as kinds
use Rattle.blif_model.specs.declared.line.ModelLine.{ModelLine}
use Rattle.blif_flat.specs.Flat.{Models, signal_of, numbers_of, flat_design, AreFormed}
use Rattle.blif_flat.specs.Lines.{all_but_last, last_of, table_by, latches_by, tables_by, mentions_of, IsFormed}
use Rattle.blif_flat.specs.Trees.{TableSays, LineSays, IsInstanceTree, LatchBegins, TreeBegins, LatchMoves, TreeMoves, unfolded, IsUnfolded}
use Rattle.blif_flat.proofs.Lines.{front-map, last-map, last-among, front-among}
use Rattle.blif_flat.proofs.Sound.{line-formed, numbers-are}

-- two parts of a list
All-first : {X : Type 0} (P : X → Type 0) (xs ys : List X) → All P (xs ++ ys) → All P xs
All-first P [] ys all = All-nil P
All-first P (x ∷ xs) ys all = All-cons P x xs (All-head P x (xs ++ ys) all) (All-first P xs ys (All-tail P x (xs ++ ys) all))

All-second : {X : Type 0} (P : X → Type 0) (xs ys : List X) → All P (xs ++ ys) → All P ys
All-second P [] ys all = all
All-second P (x ∷ xs) ys all = All-second P xs ys (All-tail P x (xs ++ ys) all)

-- what lines say, line by line
module _ (X : Type 0) (P : X → Type 0) (by : Placed ModelLine → List X) where
  abbrev joined : List (Placed ModelLine) → List X
  joined lines = flat_map by lines

  each-line : (lines : List (Placed ModelLine)) → All P (joined lines) → (placed : Placed ModelLine) → Among placed lines → All P (by placed)
  each-line [] all placed none = absurd none
  each-line (first ∷ lines) all placed (inl here) = subst (λ (p : Placed ModelLine). All P (by p)) here (All-first P (by first) (joined lines) all)
  each-line (first ∷ lines) all placed (inr there) = each-line lines (All-second P (by first) (joined lines) all) placed there

  all-lines : (lines : List (Placed ModelLine)) → ((placed : Placed ModelLine) → Among placed lines → All P (by placed)) → All P (joined lines)
  all-lines [] each = All-nil P
  all-lines (first ∷ lines) each = All-append P (by first) (joined lines) (each first (inl refl)) (all-lines lines (λ placed there. each placed (inr there)))

one-of : {X : Type 0} (P : X → Type 0) (x : X) → P x → All P (x ∷ [])
one-of P x holds = All-cons P x [] holds (All-nil P)

-- values of renamed names
values-are : (value : ℕ → Bool) (f : ℕ → ℕ) (names : List ℕ) → map value (map f names) ≡ map (λ name. value (f name)) names
values-are value f [] = refl
values-are value f (name ∷ names) = ap (λ rest. value (f name) ∷ rest) (values-are value f names)

front-are : (value : ℕ → Bool) (f : ℕ → ℕ) (names : List ℕ) → map value (all_but_last (map f names)) ≡ map (λ name. value (f name)) (all_but_last names)
front-are value f names = ap (map value) (front-map f names) ∙ values-are value f (all_but_last names)

module _ (valuation : List Bool) (most : ℕ) (f : ℕ → ℕ) where
  abbrev value : ℕ → Bool
  value name = bit valuation (f name)

  abbrev AgreesWith : Table → Type 0
  AgreesWith table = bit valuation table.output ≡ output_in valuation table

  abbrev BeginsWith : Latch → Type 0
  BeginsWith latch = MayBegin latch.init (bit valuation latch.output)

  table-says : (kind : LineKind) (names : List ℕ) → All AgreesWith (tables_by kind (map f names)) → TableSays kind names value
  table-says kinds.Inputs names all = tt
  table-says kinds.Outputs names all = tt
  table-says (kinds.Latch init) names all = tt
  table-says (kinds.Table rows) [] all = tt
  table-says (kinds.Table rows) (name ∷ names) all =
      let here = All-head AgreesWith (table_by rows (map f (name ∷ names))) [] all in
      sym (ap (bit valuation) (last-map f name names)) ∙ here
      ∙ ap (output_by (table_by rows (name ∷ names))) (front-are (bit valuation) f (name ∷ names))

  says-table : (kind : LineKind) (names : List ℕ) → IsFormed most kind names → TableSays kind names value → All AgreesWith (tables_by kind (map f names))
  says-table kinds.Inputs names formed says = All-nil AgreesWith
  says-table kinds.Outputs names formed says = All-nil AgreesWith
  says-table (kinds.Latch init) names formed says = All-nil AgreesWith
  says-table (kinds.Table rows) [] formed says = absurd formed
  says-table (kinds.Table rows) (name ∷ names) formed says =
      one-of AgreesWith (table_by rows (map f (name ∷ names)))
      (ap (bit valuation) (last-map f name names) ∙ says
      ∙ sym (ap (output_by (table_by rows (name ∷ names))) (front-are (bit valuation) f (name ∷ names))))

  latch-begins : (kind : LineKind) (names : List ℕ) → All BeginsWith (latches_by kind (map f names)) → LatchBegins kind names value
  latch-begins kinds.Inputs names all = tt
  latch-begins kinds.Outputs names all = tt
  latch-begins (kinds.Latch init) [] all = tt
  latch-begins (kinds.Latch init) (a ∷ []) all = tt
  latch-begins (kinds.Latch init) (a ∷ b ∷ []) all = All-head BeginsWith (record { input = f a; output = f b; init = init }) [] all
  latch-begins (kinds.Latch init) (a ∷ b ∷ c ∷ names) all = tt
  latch-begins (kinds.Table rows) names all = tt

  begins-latch : (kind : LineKind) (names : List ℕ) → LatchBegins kind names value → All BeginsWith (latches_by kind (map f names))
  begins-latch kinds.Inputs names says = All-nil BeginsWith
  begins-latch kinds.Outputs names says = All-nil BeginsWith
  begins-latch (kinds.Latch init) [] says = All-nil BeginsWith
  begins-latch (kinds.Latch init) (a ∷ []) says = All-nil BeginsWith
  begins-latch (kinds.Latch init) (a ∷ b ∷ []) says = one-of BeginsWith (record { input = f a; output = f b; init = init }) says
  begins-latch (kinds.Latch init) (a ∷ b ∷ c ∷ names) says = All-nil BeginsWith
  begins-latch (kinds.Table rows) names says = All-nil BeginsWith

module _ (earlier later : List Bool) (f : ℕ → ℕ) where
  abbrev MovesWith : Latch → Type 0
  MovesWith latch = bit later latch.output ≡ bit earlier latch.input

  latch-moves : (kind : LineKind) (names : List ℕ) → All MovesWith (latches_by kind (map f names))
      → LatchMoves kind names (λ name. bit earlier (f name)) (λ name. bit later (f name))
  latch-moves kinds.Inputs names all = tt
  latch-moves kinds.Outputs names all = tt
  latch-moves (kinds.Latch init) [] all = tt
  latch-moves (kinds.Latch init) (a ∷ []) all = tt
  latch-moves (kinds.Latch init) (a ∷ b ∷ []) all = All-head MovesWith (record { input = f a; output = f b; init = init }) [] all
  latch-moves (kinds.Latch init) (a ∷ b ∷ c ∷ names) all = tt
  latch-moves (kinds.Table rows) names all = tt

  moves-latch : (kind : LineKind) (names : List ℕ) → LatchMoves kind names (λ name. bit earlier (f name)) (λ name. bit later (f name))
      → All MovesWith (latches_by kind (map f names))
  moves-latch kinds.Inputs names says = All-nil MovesWith
  moves-latch kinds.Outputs names says = All-nil MovesWith
  moves-latch (kinds.Latch init) [] says = All-nil MovesWith
  moves-latch (kinds.Latch init) (a ∷ []) says = All-nil MovesWith
  moves-latch (kinds.Latch init) (a ∷ b ∷ []) says = one-of MovesWith (record { input = f a; output = f b; init = init }) says
  moves-latch (kinds.Latch init) (a ∷ b ∷ c ∷ names) says = All-nil MovesWith
  moves-latch (kinds.Table rows) names says = All-nil MovesWith

-- what a line says depends on the names that it mentions alone
same-front : (one other : ℕ → Bool) (names : List ℕ) → ((name : ℕ) → Among name names → one name ≡ other name) → map one names ≡ map other names
same-front one other [] same = refl
same-front one other (name ∷ names) same =
    let here : one name ≡ other name = same name (inl refl) in
    let rest : map one names ≡ map other names = same-front one other names (λ later there. same later (inr there)) in
    cc

of-names : (kind : LineKind) (names : List ℕ) (one other : ℕ → Bool) → ((name : ℕ) → Among name names → one name ≡ other name)
    → TableSays kind names one → TableSays kind names other
of-names kinds.Inputs names one other same says = tt
of-names kinds.Outputs names one other same says = tt
of-names (kinds.Latch init) names one other same says = tt
of-names (kinds.Table rows) [] one other same says = tt
of-names (kinds.Table rows) (name ∷ names) one other same says =
    sym (same (last_of (name ∷ names)) (last-among name names)) ∙ says
    ∙ ap (output_by (table_by rows (name ∷ names)))
    (same-front one other (all_but_last (name ∷ names)) (λ n there. same n (front-among (name ∷ names) n there)))

pub of-mentions : IsOfMentions mentions_of LineSays
of-mentions line one other same says = of-names line.kind line.mentions one other same says

module _ (models : Models) (texts : List (List (List ℕ))) (most : ℕ) (whole : IsWhole mentions_of models) (formed : AreFormed models most) where
  lines : List (Placed ModelLine)
  lines = flat_lines models

  agrees-flat : (valuation : List Bool) → IsValuation (flat_design models texts) valuation → IsFlat mentions_of models LineSays false valuation
  unfolding flat_design
  agrees-flat valuation is = record {
    size = is.size;
    lines = λ path line there.
        let placed : Placed ModelLine = (path, line) in
        table-says valuation most (signal_of models path) line.kind line.mentions
        (subst (λ numbers. All (AgreesWith valuation most (signal_of models path)) (tables_by line.kind numbers)) (numbers-are models most formed placed)
        (each-line Table (AgreesWith valuation most (signal_of models path)) (λ (p : Placed ModelLine). tables_by p.1.kind (numbers_of models p)) (flat_lines models) is.tables placed there));
  }

  flat-agrees : (valuation : List Bool) → IsFlat mentions_of models LineSays false valuation → IsValuation (flat_design models texts) valuation
  unfolding flat_design
  flat-agrees valuation flat = record {
    size = flat.size;
    tables = all-lines Table (AgreesWith valuation most (λ n. n)) (λ (p : Placed ModelLine). tables_by p.1.kind (numbers_of models p)) (flat_lines models)
        (λ placed there. subst (λ numbers. All (AgreesWith valuation most (λ n. n)) (tables_by placed.1.kind numbers)) (sym (numbers-are models most formed placed))
        (says-table valuation most (signal_of models placed.0) placed.1.kind placed.1.mentions
        (line-formed models most formed placed there) (flat.lines placed.0 placed.1 there)));
  }

  to-tree : (valuation : List Bool) → IsValuation (flat_design models texts) valuation → IsInstanceTree models (unfolded models valuation)
  to-tree valuation is = IsTree-unfold_of ModelLine mentions_of models Bool LineSays false whole valuation (agrees-flat valuation is)

  from-tree : (valuation : List Bool) → length valuation ≡ length (signals mentions_of models) → IsInstanceTree models (unfolded models valuation)
      → IsValuation (flat_design models texts) valuation
  from-tree valuation size tree = flat-agrees valuation (IsFlat-from_tree ModelLine mentions_of models Bool LineSays false valuation size tree)

  -- lines of instances are flat lines
  flat-line : (path : Path) (line : ModelLine) → IsInstance models path → Among (Own line) (items_at models path) → Among (path, line) (flat_lines models)
  flat-line path line instance there = has_line models path line instance (whole.shallow path instance) there

  to-begin : (valuation : List Bool) → IsInitial (flat_design models texts) valuation → TreeBegins models (unfolded models valuation)
  unfolding flat_design
  to-begin valuation is path line instance there =
      latch-begins valuation most (signal_of models path) line.kind line.mentions
      (subst (λ numbers. All (BeginsWith valuation most (λ n. n)) (latches_by line.kind numbers)) (numbers-are models most formed (path, line))
      (each-line Latch (BeginsWith valuation most (λ n. n)) (λ (p : Placed ModelLine). latches_by p.1.kind (numbers_of models p)) (flat_lines models) is.latches (path, line)
      (flat-line path line instance there)))

  from-begin : (valuation : List Bool) → IsValuation (flat_design models texts) valuation → TreeBegins models (unfolded models valuation)
      → IsInitial (flat_design models texts) valuation
  unfolding flat_design
  from-begin valuation is begins = record {
    valuation = is;
    latches = all-lines Latch (BeginsWith valuation most (λ n. n)) (λ (p : Placed ModelLine). latches_by p.1.kind (numbers_of models p)) (flat_lines models)
        (λ placed there. let of = line_of models placed.0 placed.1 there in
        subst (λ numbers. All (BeginsWith valuation most (λ n. n)) (latches_by placed.1.kind numbers)) (sym (numbers-are models most formed placed))
        (begins-latch valuation most (signal_of models placed.0) placed.1.kind placed.1.mentions (begins placed.0 placed.1 of.0 of.1)));
  }

  to-move : (earlier later : List Bool) → IsStep (flat_design models texts) earlier later → TreeMoves models (unfolded models earlier) (unfolded models later)
  unfolding flat_design
  to-move earlier later is path line instance there =
      latch-moves earlier later (signal_of models path) line.kind line.mentions
      (subst (λ numbers. All (MovesWith earlier later (λ n. n)) (latches_by line.kind numbers)) (numbers-are models most formed (path, line))
      (each-line Latch (MovesWith earlier later (λ n. n)) (λ (p : Placed ModelLine). latches_by p.1.kind (numbers_of models p)) (flat_lines models) is.latches (path, line)
      (flat-line path line instance there)))

  from-move : (earlier later : List Bool) → IsValuation (flat_design models texts) earlier → IsValuation (flat_design models texts) later
      → TreeMoves models (unfolded models earlier) (unfolded models later) → IsStep (flat_design models texts) earlier later
  unfolding flat_design
  from-move earlier later first second moves = record {
    before = first;
    after = second;
    latches = all-lines Latch (MovesWith earlier later (λ n. n)) (λ (p : Placed ModelLine). latches_by p.1.kind (numbers_of models p)) (flat_lines models)
        (λ placed there. let of = line_of models placed.0 placed.1 there in
        subst (λ numbers. All (MovesWith earlier later (λ n. n)) (latches_by placed.1.kind numbers)) (sym (numbers-are models most formed placed))
        (moves-latch earlier later (signal_of models placed.0) placed.1.kind placed.1.mentions (moves placed.0 placed.1 of.0 of.1)));
  }

  pub is-unfolded : IsUnfolded models texts
  is-unfolded = record {
    valuations = λ valuation size. (λ is. to-tree valuation is, λ tree. from-tree valuation size tree);
    each = λ tree is. (
      folded mentions_of models tree,
      flat-agrees (folded mentions_of models tree) (IsFlat-folded ModelLine mentions_of models Bool LineSays false whole of-mentions tree is),
      Same-folded ModelLine mentions_of models Bool LineSays false whole tree is,
    );
    one = λ valuation other size other_size same. same_valuations ModelLine mentions_of models Bool LineSays false valuation other size other_size same;
    initial = λ valuation size. (
      λ is. (to-tree valuation is.valuation, to-begin valuation is),
      λ both. from-begin valuation (from-tree valuation size both.0) both.1,
    );
    step = λ earlier later size later_size. (
      λ is. (to-tree earlier is.before, to-tree later is.after, to-move earlier later is),
      λ all. from-move earlier later (from-tree earlier size all.0) (from-tree later later_size all.1) all.2,
    );
  }
