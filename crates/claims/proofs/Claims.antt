-- The claims hold: each record by the theorems of the crates below.
use Rattle.claims.specs.Claims.{Claims}
use Rattle.claims.proofs.Calls.{calls}
use Rattle.claims.proofs.Numbers.{numbers}
use Rattle.claims.proofs.Ignored.{ignored}
use Rattle.claims.proofs.Manual.{manual}
use Rattle.claims.proofs.Words.{words}
use Rattle.claims.proofs.Classes.{classes}
use Rattle.claims.proofs.Header.{header}
use Rattle.claims.proofs.X86.{x86}
use Rattle.claims.proofs.Forms.{forms}
use Rattle.claims.proofs.Fixup.{fixup}
use Rattle.claims.proofs.Authenticated.{authenticated}
use Rattle.claims.proofs.Hints.{hints}
use Rattle.claims.proofs.Listed.{listed}
use Rattle.claims.proofs.Kept.{kept}
use Rattle.claims.proofs.Lister.{lister}
use Rattle.claims.proofs.Payloads.{payloads}
use Rattle.claims.proofs.Twelve.{twelve}

pub claims : Claims
claims =
    record {
      calls = calls;
      numbers = numbers;
      ignored = ignored;
      manual = manual;
      words = words;
      classes = classes;
      header = header;
      x86 = x86;
      forms = forms;
      fixup = fixup;
      authenticated = authenticated;
      hints = hints;
      listed = listed;
      kept = kept;
      lister = lister;
      payloads = payloads;
      twelve = twelve;
    }
