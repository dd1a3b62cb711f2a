-- How many binary digits numbers take.
use Rattle.std.specs.Prelude.{ℕ, zero, suc, ◌/◌, ◌==◌, if◌then◌else◌}

-- how many binary digits a number has, looked for up to so many
abbrev pub digits_within : ℕ → ℕ → ℕ
digits_within zero number = 0
digits_within (suc most) number = if number == 0 then 0 else suc (digits_within most (number / 2))

-- how many binary digits the numbers of so many obligations take, which are at most as large
abbrev pub number_width : ℕ → ℕ
number_width obligations = digits_within obligations obligations
