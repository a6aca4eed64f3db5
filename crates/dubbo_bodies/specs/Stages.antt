-- How a descriptor goes on, byte by byte.
use Rattle.std.specs.Prelude.{◌≡◌, ℕ, suc, ◌==◌, Option, Some, None, if◌then◌else◌}
use Rattle.dubbo_bodies.specs.declared.stage.Stage.{Stage}
use Rattle.dubbo_bodies.specs.declared.stage.Stage.TheVariants.{Between, Element, Class, Name}
use Rattle.dubbo_bodies.specs.Descriptor.{MOST}

-- where a parameter stands behind its first byte
unfoldable pub begun_by : ℕ → Option Stage
begun_by b =
    if b == 0x5a then Some Between else
    if b == 0x42 then Some Between else
    if b == 0x43 then Some Between else
    if b == 0x53 then Some Between else
    if b == 0x49 then Some Between else
    if b == 0x4a then Some Between else
    if b == 0x46 then Some Between else
    if b == 0x44 then Some Between else
    if b == 0x5b then Some Element else
    if b == 0x4c then Some Class else
    None

-- where a descriptor stands one byte on
abbrev pub stage_after : Stage → ℕ → Option Stage
stage_after Between b = begun_by b
stage_after Element b = begun_by b
stage_after Class b = if b == 0x3b then None else Some Name
stage_after Name b = if b == 0x3b then Some Between else Some Name

-- where a stage is behind a whole parameter, one more has ended
abbrev pub ended : Stage → ℕ → ℕ
ended Between c = suc c
ended Element c = c
ended Class c = c
ended Name c = c

-- as many parameters as there may be have ended, and the next would begin
abbrev pub IsFull : Stage → ℕ → Type 0
IsFull stage count = (stage ≡ Between) × (count ≡ MOST)
