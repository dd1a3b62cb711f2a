-- The spans of the indices behind texts.
use Rattle.std.proofs.Common.{◌≡◌, ℕ, suc, ◌+◌, ◌-◌, ◌<◌, Bool as Truth, true, false, cond, List, ◌∷◌, drop, get_or, length, Option, None, Some, refl, sym, ap, ◌∙◌, arith}
use Rattle.std.proofs.lemmas.Map.Text.{btree_map_updates_str}
use Rattle.std.proofs.lemmas.Slice.Eq.{bytes_eq-Decides}
use Rattle.std.proofs.Math.Seq.{drop-cons}
use Rattle.std.specs.BTreeMap.{UpdatesBy}
use Rattle.std.specs.Cmp.Lexicographic.{slice_cmp}
use Rattle.std.specs.Borrow.{Bor}
use Rattle.std.specs.Option.{option_copied, option_map}
use Rattle.std.specs.Ordering.{nat_cmp}
use Rattle.std.specs.Str.{bytes_eq}
use Rattle.psl_tree.specs.declared.name.Name.{Name}
use Rattle.psl_layer_theory.specs.Buses.{Indexed, indexed}
use Rattle.trace_buses.specs.Buses.{Span as Range, span_behind, widened, with_name}
use Rattle.trace_buses.specs.Spans.{Spans, Tells, option_span, span_at, span_in}
use Rattle.trace_buses.specs.declared.spans.Span.{Span}

-- the spans with one name more, which stands before the others
pub tells_more : (names : List Name) (old new : Spans) (distance : ℕ) (name : Name) → distance < length names → name ≡ get_or names (length names - 1 - distance) name →
    Tells old (drop (length names - distance) names) → ((text : List ℕ) → span_at new text ≡ with_name text name.signal (indexed name.text) (span_at old text)) →
    Tells new (drop (length names - (distance + 1)) names)
tells_more names old new distance name inside is told added text =
    let place : ℕ = length names - 1 - distance in
    let behind : List Name = drop (length names - distance) names in
    let here : length names - (distance + 1) ≡ place = omega arith in
    let next : suc place ≡ length names - distance = omega arith in
    let rest : drop (length names - (distance + 1)) names ≡ name ∷ behind =
    ap (λ (n : ℕ). drop n names) here ∙ drop-cons names place name (omega arith) ∙ ap (λ (first : Name). first ∷ drop (suc place) names) (sym is)
    ∙ ap (λ (n : ℕ). name ∷ drop n names) next in
    added text ∙ ap (with_name text name.signal (indexed name.text)) (told text) ∙ ap (λ (all : List Name). span_behind all text) (sym rest)

-- a span that was written, by whether it was written here
written : (here : Truth) (signal index : ℕ) (span : Span) (old new : Option Span) (at : Option Range) → new ≡ cond here (Some span) old →
    span_in span ≡ widened signal index at → (here ≡ true → at ≡ option_map span_in old) →
    option_map span_in new ≡ cond here (Some (widened signal index (option_map span_in old))) (option_map span_in old)
written true signal index span old new at is wide same = ap (option_map span_in) is ∙ ap Some (wide ∙ ap (widened signal index) (same refl))
written false signal index span old new at is wide same = ap (option_map span_in) is

-- the spans with an index more
pub span_written : (old new : Spans) (signal : ℕ) (name : Indexed) (span : Span) →
    UpdatesBy (λ x y. slice_cmp nat_cmp x.now y.now) (λ k. slice_cmp nat_cmp name.text k.now) old new (Some span) →
    span_in span ≡ widened signal name.index (span_at old name.text) → (query : List ℕ) → span_at new query ≡ with_name query signal (Some name) (span_at old query)
span_written old new signal name span updates wide query =
    let found = btree_map_updates_str name.text old new (Some span) updates query in
    written (bytes_eq name.text query) signal name.index span _ _ (span_at old name.text) found wide
    (λ equal. ap (span_at old) ((bytes_eq-Decides name.text query).0 equal))

-- a span that was found
pub copied_span : (found : Option (Bor Span)) → option_span found ≡ option_map span_in (option_copied found)
copied_span None = refl
copied_span (Some span) = refl
