-- Each refusal has one of the numbers 1 to 16 (RULES 3.1).
use Prim.Native.Nat.{◌≤◌}
use lib.Dec.{lit≤}
use Rattle.macho.specs.Refusal.{number_of}
use Rattle.macho.specs.declared.refusal.Refusal.{Refusal}
use Rattle.macho.specs.declared.refusal.Refusal.TheVariants.{Lengths, Slots, Bounds, LoneAddend, Unsupported, Unfit}
use Rattle.macho.specs.declared.refusal.Refusal.TheVariants.{NoSection, LoneSubtractor, Overflow, NeedsSymbol, Flags, NoEntry, Malformed, Trailing}
use Rattle.macho.specs.declared.refusal.Refusal.TheVariants.{NotAuthenticated, FarFromImage}

pub numbered : (x : Refusal) → (1 ≤ number_of x) × (number_of x ≤ 16)
numbered Lengths = (lit≤ tt, lit≤ tt)
numbered Slots = (lit≤ tt, lit≤ tt)
numbered Bounds = (lit≤ tt, lit≤ tt)
numbered LoneAddend = (lit≤ tt, lit≤ tt)
numbered Unsupported = (lit≤ tt, lit≤ tt)
numbered Unfit = (lit≤ tt, lit≤ tt)
numbered NoSection = (lit≤ tt, lit≤ tt)
numbered LoneSubtractor = (lit≤ tt, lit≤ tt)
numbered Overflow = (lit≤ tt, lit≤ tt)
numbered NeedsSymbol = (lit≤ tt, lit≤ tt)
numbered Flags = (lit≤ tt, lit≤ tt)
numbered NoEntry = (lit≤ tt, lit≤ tt)
numbered Malformed = (lit≤ tt, lit≤ tt)
numbered Trailing = (lit≤ tt, lit≤ tt)
numbered NotAuthenticated = (lit≤ tt, lit≤ tt)
numbered FarFromImage = (lit≤ tt, lit≤ tt)
