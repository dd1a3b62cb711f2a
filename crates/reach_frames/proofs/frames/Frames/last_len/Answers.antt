use Rattle.std.proofs.Common.{◌∙◌, ◌-◌, ap, sym, ℕ, [], get_or, length, arith}
use Rattle.reach_frames.proofs.LevelFrames.{last_frame}
use Rattle.reach_frames.proofs.frames.Frames.last_len.Goals as goal

pub returns : goal.returns
returns c =
    c.count_at.ensures ∙ ap (λ (count : ℕ). length (get_or c.args.self.now (count - 1) [])) c.len.ensures
    ∙ sym (last_frame c.args.self.now (length c.args.self.now - 1) (omega (arith, c.requires)))
