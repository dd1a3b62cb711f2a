use Rattle.std.proofs.Common.{◌≡◌, ◌++◌, ◌∷◌, [], List, ℕ, sym, ap, ◌∙◌, true, refl, rules}
use Rattle.std.proofs.lemmas.Bool.{false≢true}
use Rattle.std.proofs.lemmas.List.{nil_from_length}
use Rattle.std.proofs.lemmas.Int.{to_z-of_z}
use mir.Syntax.{w32}
use mir.Val.{SFits}
use Rattle.clause_text.specs.Lines.{lacks}
use Rattle.clause_text.specs.Words.{Ends}
use Rattle.clause_text.proofs.Splitting.{front, front_push, front_zero, bad_word, no_blank, goes_next, ends_behind, within_push}
use Rattle.clause_text.proofs.words.read_literals.Goals as goal

pub returns-then-is_zero : goal.returns-then-is_zero
returns-then-is_zero c =
    let read = c.loop-word.literals.items in
    let behind = c.split_at.result.1.now in
    let word = c.if-is_zero.ensures.0 refl in
    let rest = c.split_at.ensures.by_index.0 ∙ ap (λ (bs : List ℕ). bs ++ behind) word in
    record {
      is = c.loop-word.invariant.is ∙ ap (λ (bs : List ℕ). front read ++ bs) rest ∙ front_zero read behind;
      within = c.loop-word.invariant.within;
      ends = rw c.split_at.ensures.back (ends_behind c.loop-word.rest.now c.length_before.result c.length_before.ensures.behind);
    }

pub returns-in_default : goal.returns-in_default
returns-in_default c =
    let word : lacks 32 c.split_at.result.0.now ≡ true = rw c.split_at.ensures.front c.length_before.ensures.before in
    let ends : Ends c.split_at.result.1.now = rw c.split_at.ensures.back (ends_behind c.loop-word.rest.now c.length_before.result c.length_before.ensures.behind) in
    bad_word c.args.line.now c.loop-word.rest.now c.split_at.result.0.now c.split_at.result.1.now c.loop-word.literals.items c.loop-word.invariant.goes
    c.split_at.ensures.by_index.0 word ends (λ same. false≢true (c.if-is_zero.ensures.1 same)) c.in_default.ensures.none

pub returns-in_default-split_first : goal.returns-in_default-split_first
returns-in_default-split_first c =
    let word : lacks 32 c.split_at.result.0.now ≡ true = rw c.split_at.ensures.front c.length_before.ensures.before in
    let none : c.split_at.result.1.now ≡ [] = nil_from_length c.split_at.result.1.now c.in_default-split_first.ensures.cases in
    no_blank c.args.line.now c.loop-word.rest.now c.split_at.result.0.now c.loop-word.literals.items c.loop-word.invariant.goes
    (c.split_at.ensures.by_index.0 ∙ ap (λ (bs : List ℕ). c.split_at.result.0.now ++ bs) none) word (λ same. false≢true (c.if-is_zero.ensures.1 same))

pub loop-word-preserved : goal.loop-word-preserved
loop-word-preserved c =
    let read = c.loop-word.literals.items in
    let literal = c.in-Some.literal in
    let next = c.in-Some-split_first.next.now in
    let fits : SFits w32 literal = search rules in
    let items : c.push.new.self.items ≡ read ++ literal ∷ [] = c.in_ok-push.ensures.items ∙ ap (λ z. read ++ z ∷ []) (to_z-of_z w32 literal fits) in
    let word : lacks 32 c.split_at.result.0.now ≡ true = rw c.split_at.ensures.front c.length_before.ensures.before in
    let behind = c.in-Some-split_first.ensures.cases.0 in
    let ends : Ends c.split_at.result.1.now = rw c.split_at.ensures.back (ends_behind c.loop-word.rest.now c.length_before.result c.length_before.ensures.behind) in
    let blank : c.in-Some-split_first.field-0-0.now ≡ 32 = rw behind at ends in
    let split : c.split_at.result.1.now ≡ 32 ∷ next = behind ∙ ap (λ b. b ∷ next) blank in
    let rest : c.loop-word.rest.now ≡ c.split_at.result.0.now ++ 32 ∷ next = c.split_at.ensures.by_index.0 ∙ ap (λ (bs : List ℕ). c.split_at.result.0.now ++ bs) split in
    let says = c.in-Some.ensures.some in
    record {
      is = rw items (c.loop-word.invariant.is
          ∙ ap (λ (bs : List ℕ). front read ++ bs) (rest ∙ ap (λ (bs : List ℕ). bs ++ 32 ∷ next) says.1)
          ∙ sym (front_push read literal next));
      within = rw items (within_push read literal c.loop-word.invariant.within says.0);
      goes = rw items (goes_next c.args.line.now c.loop-word.rest.now c.split_at.result.0.now next read literal c.loop-word.invariant.goes rest word
          (λ same. false≢true (c.if-is_zero.ensures.1 same)) says.0 says.1);
    }
