use Rattle.std.proofs.Common.{◌≡◌, [], map, Some, ap, ◌∙◌, List, ℕ, subst, Bor}
use Rattle.std.specs.List.{slice_get}
use Rattle.std.specs.Option.{option_map}
use Rattle.std.proofs.lemmas.Option.{slice_get-map, slice_get-get_or}
use Rattle.vcd_reader.specs.Labels.{place_of}
use Rattle.vcd_reader.proofs.codes.CodeTable.has.Goals as goal

pub returns-then-number-texts : goal.returns-then-number-texts
returns-then-number-texts c = λ e.
    let xs : List (Bor (List ℕ)) = c.as_slice-texts.result.now in
    let none : Bor (List ℕ) = record { ref_ptr = (0, 0); now = [] } in
    let shown : Bor (List ℕ) → List ℕ = λ t. t.now in
    let step : slice_get (map shown xs) c.args.number ≡ Some c.args.text.now =
    slice_get-map shown xs c.args.number ∙
    (ap (option_map shown) (slice_get-get_or xs c.args.number none c.if-number-texts.true) ∙ ap Some (c.same.ensures e)) in
    let here : slice_get (map shown c.self.inside.texts.items) c.args.number ≡ Some c.args.text.now =
    subst (λ (ys : List (Bor (List ℕ))). slice_get (map shown ys) c.args.number ≡ Some c.args.text.now) c.as_slice-texts.ensures.value step in
    subst (λ (texts : List (List ℕ)). place_of texts c.args.text.now ≡ Some c.args.number) c.self.view_is (c.self.invariant.2 c.args.number c.args.text.now here)
