-- What is made of a hierarchy is its netlist.
use Rattle.std.proofs.Common.{◌≡◌, ℕ, zero, suc, ◌+◌, ◌<◌, inl, inr, Bool, true, false, cond, List, [], ◌∷◌, ◌++◌, length, map, Option, None, Some, refl, sym, ap, ◌∙◌, ⊎_elim, arith, decimal, slice_index_or, take, append_assoc}
use Rattle.std.proofs.lemmas.List.{append-nil, map-append}
use Rattle.std.specs.List.{flat_map}
use Rattle.psl_tree.specs.declared.name.Name.{Name}
use Rattle.blif_flattening.specs.declared.model.Item.{Item}
use Rattle.blif_flattening.specs.declared.model.Item.TheVariants.{Own, Place}
use Rattle.blif_flattening.specs.Hierarchy.{Path, flat_lines, items_of, mentioned, mentioned_by, model_at, owner}
use Rattle.blif_flattening.specs.Instances.{IsNamed, names_of}
use Rattle.blif_flattening.specs.Listing.{counted_from, flat_instance, instances, number_in_list}
use Rattle.blif_flattening.specs.Members.{Among}
use Rattle.blif_flattening.specs.Numbers.{is_among, signals}
use Rattle.blif_flattening.proofs.Lines.{has_line}
use Rattle.blif_flattening.proofs.Members.{Among-flat_map, Among-map, from_append}
use Rattle.blif_flattening.proofs.Numbering.{Among-told, onto-adds}
use Rattle.blif_model.specs.declared.line.ModelLine.{ModelLine}
use Rattle.blif_hierarchy.specs.Drivers.{inputs_in}
use Rattle.blif_flat.specs.declared.flat.FlatNetlist.{FlatNetlist}
use Rattle.blif_flat.specs.Flat.{Models, flat_design, flat_inputs, flat_latches, flat_names, flat_tables, full_text, names_from, signal_of, texts_at}
use Rattle.blif_flat.specs.Inputs.{design_in, first_numbers, inputs_at, number_in, number_or}
use Rattle.blif_flat.specs.Lines.{inputs_of, mentions_of}
use Rattle.blif_flat.specs.Naming.{name_with, names_in, names_with, prefix_of, step_of}
use Rattle.blif_flat.proofs.Lines.{inputs-mentioned}

-- the text of a name, with what leads to its instance before it
full-text : (path : Path) (text : List ℕ) → full_text path text ≡ prefix_of path ++ text
full-text [] text = refl
full-text (k ∷ path) text =
    full-text path (117 ∷ decimal (k + 1) ++ 46 ∷ text)
    ∙ ap (λ rest. prefix_of path ++ 117 ∷ rest) (sym (append_assoc (decimal (k + 1)) (46 ∷ []) text))
    ∙ sym (append_assoc (prefix_of path) (step_of k) text)

-- a name that is a signal, or is not
by-test : (prefix text full : List ℕ) (n : ℕ) (rest : List Name) (test : Bool) → full ≡ prefix ++ text
    → name_with prefix (cond test (Some n) None) text ++ rest
    ≡ cond test (record { text = full; signal = n; left = 0; right = 0 } ∷ rest) rest
by-test prefix text full n rest true is =
    ap (λ t. record { text = t; signal = n; left = 0; right = 0 } ∷ rest) (sym is)
by-test prefix text full n rest false is = refl

-- what is asked at a number
counted-at : {A : Type 0} (ask : ℕ → A) (other : A) (start count k : ℕ) → k < count
    → slice_index_or (counted_from ask start count) k other ≡ ask (start + k)
counted-at ask other start zero k lt = absurd (omega arith)
counted-at ask other start (suc count) zero lt = let at : start ≡ start + 0 = omega arith in ap ask at
counted-at ask other start (suc count) (suc k) lt =
    let at : suc start + k ≡ start + suc k = omega arith in
    counted-at ask other (suc start) count k (omega arith) ∙ ap ask at

map-alike : {A B : Type 0} (f g : A → B) (xs : List A) → ((x : A) → Among x xs → f x ≡ g x) → map f xs ≡ map g xs
map-alike f g [] same = refl
map-alike f g (x ∷ xs) same =
    ap (λ y. y ∷ map f xs) (same x (inl refl)) ∙ ap (λ ys. g x ∷ ys) (map-alike f g xs (λ y there. same y (inr there)))

-- the inputs of one item more
inputs-next : (items : List (Item ModelLine)) (i : ℕ) (item : Item ModelLine) → i < length items → item ≡ slice_index_or items i item
    → inputs_in inputs_of (take (suc i) items) ≡ inputs_in inputs_of (take i items) ++ inputs_at item
inputs-next [] i item lt is = absurd (omega arith)
inputs-next (Own line ∷ items) zero item lt is = rw is (append-nil (inputs_of line))
inputs-next (Place placement ∷ items) zero item lt is = rw is refl
inputs-next (Own line ∷ items) (suc i) item lt is =
    ap (λ (rest : List ℕ). inputs_of line ++ rest) (inputs-next items i item (omega arith) is)
    ∙ sym (append_assoc (inputs_of line) (inputs_in inputs_of (take i items)) (inputs_at item))
inputs-next (Place placement ∷ items) (suc i) item lt is = inputs-next items i item (omega arith) is

pub inputs-more : (f : ℕ → ℕ) (items : List (Item ModelLine)) (i : ℕ) (item : Item ModelLine) (inputs more names : List ℕ)
    → i < length items → item ≡ slice_index_or items i item → inputs ≡ map f (inputs_in inputs_of (take i items))
    → names ≡ inputs_at item → more ≡ inputs ++ map f names → more ≡ map f (inputs_in inputs_of (take (i + 1) items))
inputs-more f items i item inputs more names lt is before named grown =
    let next : suc i ≡ i + 1 = omega arith in
    grown ∙ ap (λ (list : List ℕ). inputs ++ map f list) named
    ∙ ap (λ (list : List ℕ). list ++ map f (inputs_at item)) before
    ∙ sym (map-append f (inputs_in inputs_of (take i items)) (inputs_at item))
    ∙ ap (map f) (sym (inputs-next items i item lt is))
    ∙ ap (λ n. map f (inputs_in inputs_of (take n items))) next

-- an input is mentioned by a line
input-line : (items : List (Item ModelLine)) (name : ℕ) → Among name (inputs_in inputs_of items)
    → (line : ModelLine) × Among (Own line) items × Among name line.mentions
input-line [] name none = absurd none
input-line (Own line ∷ items) name there =
    ⊎_elim (λ here. (line, inl refl, inputs-mentioned line.kind line.mentions name here))
    (λ later. let rest = input-line items name later in (rest.0, inr rest.1, rest.2))
    (from_append name (inputs_of line) (inputs_in inputs_of items) there)
input-line (Place placement ∷ items) name there = let rest = input-line items name there in (rest.0, inr rest.1, rest.2)

-- the numbers of the signals that the names of an instance are
abbrev ask : Models → Path → ℕ → Option ℕ
ask models path name = number_in_list (signals mentions_of models) (owner models path name)

names-of-path : (models : Models) (path : Path) (name : ℕ) (texts : List (List ℕ))
    → names_with (prefix_of path) (counted_from (ask models path) name (length texts)) texts ≡ names_from models path name texts
names-of-path models path name [] = refl
names-of-path models path name (text ∷ texts) =
    ap (λ rest. name_with (prefix_of path) (ask models path name) text ++ rest) (names-of-path models path (suc name) texts)
    ∙ by-test (prefix_of path) text (full_text path text) (signal_of models path name) (names_from models path (suc name) texts)
    (is_among (signals mentions_of models) (owner models path name)) (full-text path text)

names-of-paths : (models : Models) (texts : List (List (List ℕ))) → ((model : ℕ) → length (texts_at texts model) ≡ names_of models model)
    → (paths : List Path) → names_in texts (map (flat_instance mentions_of models) paths)
    ≡ flat_map (λ path. names_from models path 0 (texts_at texts (model_at models path))) paths
names-of-paths models texts titled [] = refl
names-of-paths models texts titled (path ∷ paths) =
    let here = texts_at texts (model_at models path) in
    ap (λ (found : List Name). found ++ names_in texts (map (flat_instance mentions_of models) paths))
    (ap (λ n. names_with (prefix_of path) (counted_from (ask models path) 0 n) here) (sym (titled (model_at models path)))
    ∙ names-of-path models path 0 here)
    ∙ ap (λ (found : List Name). names_from models path 0 here ++ found) (names-of-paths models texts titled paths)

pub names-flat : (models : Models) (texts : List (List (List ℕ))) → ((model : ℕ) → length (texts_at texts model) ≡ names_of models model)
    → names_in texts (map (flat_instance mentions_of models) (instances models)) ≡ flat_names models texts
names-flat models texts titled = names-of-paths models texts titled (instances models)

-- an input of the top is a signal
input-signal : (models : Models) → IsNamed mentions_of models → (name : ℕ) → Among name (inputs_in inputs_of (items_of models 0))
    → (name < names_of models 0) × (is_among (signals mentions_of models) (owner models [] name) ≡ true)
input-signal models named name there =
    let by = input-line (items_of models 0) name there in
    let line : Among ([], by.0) (flat_lines models) = has_line models [] by.0 tt (omega arith) by.1 in
    let mention : Among (owner models [] name) (mentioned mentions_of models (flat_lines models)) =
    Among-flat_map (mentioned_by mentions_of models) ([], by.0) (owner models [] name) (flat_lines models) line
    (Among-map (owner models []) name by.0.mentions by.2) in
    let among : Among (owner models [] name) (signals mentions_of models) =
    onto-adds [] (mentioned mentions_of models (flat_lines models)) (owner models [] name) mention in (
      named.lines 0 by.0 by.1 name by.2,
      ⊎_elim (λ yes. yes.0) (λ no_. absurd (no_.1 among)) (Among-told (signals mentions_of models) (owner models [] name)),
    )

first-is : (models : Models) → first_numbers (map (flat_instance mentions_of models) (instances models))
    ≡ counted_from (ask models []) 0 (names_of models 0)
unfolding instances
first-is models = refl

pub inputs-flat : (models : Models) → IsNamed mentions_of models
    → map (number_in (first_numbers (map (flat_instance mentions_of models) (instances models)))) (inputs_in inputs_of (items_of models 0))
    ≡ flat_inputs models
inputs-flat models named =
    ap (λ numbers. map (number_in numbers) (inputs_in inputs_of (items_of models 0))) (first-is models)
    ∙ map-alike (number_in (counted_from (ask models []) 0 (names_of models 0))) (signal_of models [])
    (inputs_in inputs_of (items_of models 0))
    (λ name there.
    let is = input-signal models named name there in
    let at : 0 + name ≡ name = omega arith in
    ap number_or (counted-at (ask models []) None 0 (names_of models 0) name is.0 ∙ ap (ask models []) at)
    ∙ ap (λ test. number_or (cond test (Some (signal_of models [] name)) None)) is.1)

pub design-is : (models : Models) (texts : List (List (List ℕ))) (made : FlatNetlist)
    → made.signals ≡ length (signals mentions_of models) → made.inputs ≡ flat_inputs models
    → made.parts.latches ≡ flat_latches models (flat_lines models) → made.parts.tables ≡ flat_tables models (flat_lines models)
    → made.names ≡ flat_names models texts → design_in made ≡ flat_design models texts
unfolding flat_design
design-is models texts made signals inputs latches tables names = rw (signals, inputs, latches, tables, names) refl
