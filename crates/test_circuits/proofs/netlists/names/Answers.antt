use Rattle.std.proofs.Common.{◌≡◌, ℕ, ◌<◌, ◌+◌, ◌≤◌, ◌⊎◌, List, [], ◌∷◌, ◌++◌, inl, inr, arith, sym, ◌∙◌, length-append, length, refl}
use Rattle.std.specs.Prelude.{Any}
use Rattle.std.proofs.lemmas.Bool.{cases_lt}
use Rattle.std.proofs.lemmas.List.{get_or_append_left}
use Rattle.std.proofs.lemmas.List.Elements.{All-push}
use Rattle.std.proofs.lemmas.List.Quantifiers.{Any-push}
use Rattle.psl_tree.specs.declared.name.Name.{Name}
use Rattle.netlist.specs.Sound.{NamesBit}
use Rattle.test_circuits.proofs.netlists.names.Goals as goal

Named : List Name → ℕ → Type 0
Named names signal = Any (λ name. name.signal ≡ signal) names

named-more : (names : List Name) (name : Name) (count signal : ℕ) → ((other : ℕ) → other < count → Named names other) → name.signal ≡ count → signal < count + 1 → Named (names ++ name ∷ []) signal
unfolding Named
named-more names name count signal named last below =
    elim (cases_lt signal count) [
      | inl early ↦
          let (place, found, within, is, has) = named signal early in
          (place, found, omega (arith, length-append names (name ∷ [])), get_or_append_left names (name ∷ []) found place within ∙ is, has)
      | inr late ↦ Any-push (λ other. other.signal ≡ signal) names name (omega arith)
    ]

pub loop-text-preserved : goal.loop-text-preserved
unfolding Named
loop-text-preserved c =
    let before = c.loop-text.invariant in
    record {
      count = omega arith;
      bits = rw c.in_ok-push.ensures.ok (All-push (NamesBit (length c.args.texts.now)) c.loop-text.names _ before.bits (record { signal = omega arith; left = refl; right = refl }));
      named = λ signal below. rw c.in_ok-push.ensures.ok (named-more c.loop-text.names _ c.loop-text.text-index signal before.named before.count below);
    }
