-- What is logged.
use Rattle.std.specs.Prelude.{ℕ, zero, suc}
use Rattle.log.specs.declared.level.LevelFilter.{LevelFilter}
use Rattle.log.specs.declared.level.LevelFilter.TheVariants.{Off, Info, Debug}

-- the level that a count of `--verbose` asks for: nothing, then jobs, images and slots, then device calls too
abbrev pub level_asked : ℕ → LevelFilter
level_asked zero = Off
level_asked (suc zero) = Info
level_asked _ = Debug
