-- What is proved: the records of claims.
use Rattle.claims.specs.Calls.{Calls}
use Rattle.claims.specs.Numbers.{Numbers}
use Rattle.claims.specs.Ignored.{Ignored}
use Rattle.claims.specs.Manual.{Manual}
use Rattle.claims.specs.Words.{Words}
use Rattle.claims.specs.Classes.{Classes}
use Rattle.claims.specs.Header.{Header}
use Rattle.claims.specs.X86.{X86}
use Rattle.claims.specs.Forms.{Forms}
use Rattle.claims.specs.Fixup.{Fixup}
use Rattle.claims.specs.Authenticated.{Authenticated}
use Rattle.claims.specs.Hints.{Hints}
use Rattle.claims.specs.Listed.{Listed}
use Rattle.claims.specs.Kept.{Kept}
use Rattle.claims.specs.Lister.{Lister}
use Rattle.claims.specs.Payloads.{Payloads}
use Rattle.claims.specs.Twelve.{Twelve}

-- all that is claimed, by record
pub record Claims : Type 2 where
  -- lent memory, ending, refusals (RULES 1.1 to 1.3)
  pub calls : Calls
  pub numbers : Numbers
  pub ignored : Ignored
  -- public documents (RULES 1.5 to 1.8); the nine of RULES 1.4 is among the hints
  pub manual : Manual
  pub words : Words
  pub classes : Classes
  pub header : Header
  -- records of x86_64, and of either machine (RULES 15)
  pub x86 : X86
  pub forms : Forms
  pub fixup : Fixup
  -- authenticated pointers, from their record to their word (RULES 1.33)
  pub authenticated : Authenticated
  pub hints : Hints
  -- which rule rewrote a hint (RULES 16)
  pub listed : Listed
  -- what a hint keeps (RULES 1.9 to 1.14)
  pub kept : Kept
  -- the word lister (RULES 10)
  pub lister : Lister
  -- hint payloads (RULES 14)
  pub payloads : Payloads
  -- the twelve examples (RULES 11)
  pub twelve : Twelve
