-- How far the run of a script is.
use Rattle.std.specs.Prelude.{◌≡◌, false, None}
use Rattle.sd_watching.specs.declared.course.Course.{Course}

-- nothing was answered yet, so nothing was refused and nothing is shown
pub record IsFresh (course : Course) : Type 0 where
  pub answers : course.answers ≡ 0
  pub few : course.few ≡ None
  pub failure : course.failure ≡ None
  pub idle : course.idle ≡ false
  pub hidden : course.is_shown ≡ false
