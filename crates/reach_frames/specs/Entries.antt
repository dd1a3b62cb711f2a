-- What a machine answers when it is asked whether something leads into a cube.
use Rattle.std.specs.Prelude.{Bool as Truth, ℤ, List}
use Rattle.reach_frames.specs.Systems.{System, IsEntry}
use Rattle.reach_frames.specs.declared.entry.Entered.{Entered}
use Rattle.reach_frames.specs.declared.entry.Entered.TheVariants.{Found, Kept}
use Rattle.reach_frames.specs.declared.entry.Entry.{Entry}

-- nothing leads into a cube
abbrev pub HasNoEntry : System → List (List ℤ) → Truth → List ℤ → Type 0
HasNoEntry system frame initial cube = (entry : Entry) → IsEntry system frame initial cube entry → ⊥

-- the answer says whether something leads into a cube
abbrev pub IsEntered : System → List (List ℤ) → Truth → List ℤ → Entered → Type 0
IsEntered system frame initial cube (Found entry) = IsEntry system frame initial cube entry
IsEntered system frame initial cube (Kept mask) = HasNoEntry system frame initial cube
