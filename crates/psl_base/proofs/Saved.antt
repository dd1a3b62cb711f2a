-- One piece, and one file, more.
use Rattle.std.proofs.Common.{◌≡◌, refl, sym, ◌∙◌, ap, subst, ℕ, ◌+◌, ◌-◌, ◌<◌, ◌≤◌, Bool, true, false, cond, List, [], ◌∷◌, ◌++◌, length, map, take, drop, Option, None, Some, arith}
use Rattle.std.specs.Option.{ForSome, option_map}
use Rattle.std.specs.Str.{bytes_eq}
use Rattle.std.specs.Prelude.{get_or}
use Rattle.std.proofs.Math.Seq.{take-add}
use Rattle.std.proofs.lemmas.List.{length-drop, map_more, take-map, take_all}
use Rattle.psl_base.specs.Shelf.{Contents, ShelfState, OnlyWrites, with_content, with_more}
use Rattle.psl_base.specs.Saves.{NewFile, SavesAll, SavesOne, file_of, with_file, with_files}
use Rattle.psl_base.specs.declared.saving.Save.{Save}

-- more bytes behind those that a name was given
more-at : (name front more : List ℕ) (files : Contents) (other : List ℕ)
    → with_more name more (with_content name front files) other ≡ with_content name (front ++ more) files other
more-at name front more files other = by (bytes_eq name other)
  where
    by : (b : Bool) → cond b (option_map (λ content. content ++ more) (cond b (Some front) (files other))) (cond b (Some front) (files other))
        ≡ cond b (Some (front ++ more)) (files other)
    by true = refl
    by false = refl

pub added : (name front more : List ℕ) (old mid new : Option Contents) → mid ≡ option_map (with_content name front) old
    → new ≡ option_map (with_more name more) mid → new ≡ option_map (with_content name (front ++ more)) old
added name front more None mid new p q = q ∙ ap (option_map (with_more name more)) p
added name front more (Some files) mid new p q =
    q ∙ ap (option_map (with_more name more)) p ∙ ap Some (λ k other. more-at name front more files other k)

pub writes-then : (old mid new : ShelfState) → OnlyWrites old mid → OnlyWrites mid new → OnlyWrites old new
writes-then old mid new p q = record {
  cursor = q.cursor ∙ p.cursor;
  read_faults = q.read_faults ∙ p.read_faults;
  write_faults = omega (arith, p.write_faults, q.write_faults);
}

files-behind : (files : List NewFile) (file : NewFile) (contents : Contents)
    → with_files (files ++ file ∷ []) contents ≡ with_file file (with_files files contents)
files-behind [] file contents = refl
files-behind (first ∷ files) file contents = files-behind files file (with_file first contents)

option-behind : (files : List NewFile) (file : NewFile) (told : Option Contents)
    → option_map (with_file file) (option_map (with_files files) told) ≡ option_map (with_files (files ++ file ∷ [])) told
option-behind files file None = refl
option-behind files file (Some contents) = ap Some (sym (files-behind files file contents))

pub saved-none : (old : ShelfState) → SavesAll [] old old
saved-none old = record { told = sym (option_map_same old.told); write_faults = refl }
  where
    option_map_same : (told : Option Contents) → option_map (with_files []) told ≡ told
    option_map_same None = refl
    option_map_same (Some contents) = refl

pub saved-more : (saves : List Save) (place : ℕ) (save : Save) (old mid new : ShelfState) → place < length saves → save ≡ get_or saves place save
    → SavesAll (map file_of (take place saves)) old mid → SavesOne (file_of save) mid new → SavesAll (map file_of (take (place + 1) saves)) old new
saved-more saves place save old mid new lt is h one =
    subst (λ files. SavesAll files old new)
    (sym (map_more file_of saves place save lt ∙ ap (λ s. map file_of (take place saves) ++ file_of s ∷ []) (sym is))) record {
      told = one.told ∙ ap (option_map (with_file (file_of save))) h.told ∙ option-behind (map file_of (take place saves)) (file_of save) old.told;
      write_faults = one.write_faults ∙ h.write_faults;
    }

-- the first bytes of a content, and then the first of its rest
pub added-more : (name content : List ℕ) (done count : ℕ) (old mid new : Option Contents) (created : Option (List ℕ)) → created ≡ Some name
    → mid ≡ option_map (with_content name (take done content)) old
    → ForSome created (λ name. new ≡ option_map (with_more name (take count (take (length content - done) (drop done content)))) mid)
    → new ≡ option_map (with_content name (take (done + count) content)) old
added-more name content done count old mid new created is first next =
    added name (take done content) (take count (drop done content)) old mid new first
    (next name is ∙ ap (λ bytes. option_map (with_more name (take count bytes)) mid) (take_all (length content - done) (drop done content) (omega (arith, length-drop done content))))
    ∙ ap (λ bytes. option_map (with_content name bytes) old) (sym (take-add done count content))

pub none-within : (saves : List Save) (place : ℕ) → place < length saves → saves ≡ [] → ⊥
none-within saves place lt e = omega (arith, lt, ap length e)

pub saved-first : (saves : List Save) (place : ℕ) (old mid : ShelfState) → SavesAll (map file_of (take place saves)) old mid
    → SavesAll (take place (map file_of saves)) old mid
saved-first saves place old mid h = subst (λ files. SavesAll files old mid) (sym (take-map file_of place saves)) h
