-- The answers that a reader stays with.
use Rattle.link_frames.specs.declared.next.Next.{Next}
use Rattle.link_frames.specs.declared.next.Next.TheVariants as next
use Rattle.link_frames.specs.declared.next.Ending.{Ending}
use Rattle.link_frames.specs.declared.next.Ending.TheVariants as ending

abbrev pub next_of : Ending → Next
next_of ending.End = next.End
next_of (ending.Lost faults) = next.Lost faults
next_of (ending.Broken at head) = next.Broken at head
next_of (ending.CutShort at) = next.CutShort at
