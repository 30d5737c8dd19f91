-- A resolved target, 48 bytes (RULES 2.17 to 2.19).
use Rattle.std.specs.Prelude.{ℕ, ◌+◌, ◌^◌, Bool, ◌&&◌, not, List, [], ◌∷◌, eqb, ltb}
use Rattle.util.specs.Word.{le}
use Rattle.util.specs.Bits.{has_bit}
use Rattle.macho.specs.Record.{Field, ◌of◌, bytes_of}
use Rattle.macho.specs.declared.resolved.Resolved.{Resolved}

-- its size in bytes
abbrev pub resolved_size : ℕ
resolved_size = 48

-- the resolved target from byte `at` on
unfoldable pub resolved_at : List ℕ → ℕ → Resolved
resolved_at s at =
    record {
      addr = le 8 s at;
      got = le 8 s (at + 8);
      branch = le 8 s (at + 16);
      thunk = le 8 s (at + 24);
      helper = le 8 s (at + 32);
      flags = le 4 s (at + 40);
      zero = le 4 s (at + 44);
    }

-- its fields in order
abbrev pub resolved_fields : Resolved → List Field
resolved_fields r =
    8 of r.addr ∷ 8 of r.got ∷ 8 of r.branch ∷ 8 of r.thunk ∷ 8 of r.helper ∷ 4 of r.flags ∷ 4 of r.zero ∷ []

-- its bytes
unfoldable pub resolved_bytes : Resolved → List ℕ
resolved_bytes r = bytes_of (resolved_fields r)

-- bit 0: imported
abbrev pub is_imported : Resolved → Bool
is_imported r = has_bit r.flags 0

-- bit 1: thread-local
abbrev pub is_tls : Resolved → Bool
is_tls r = has_bit r.flags 1

-- bit 2: has address
abbrev pub has_address : Resolved → Bool
has_address r = has_bit r.flags 2

-- bit 3: GOT can be relaxed
abbrev pub can_relax_got : Resolved → Bool
can_relax_got r = has_bit r.flags 3

-- bit 4: thunk present
abbrev pub has_thunk : Resolved → Bool
has_thunk r = has_bit r.flags 4

-- bit 5: helper present
abbrev pub has_helper : Resolved → Bool
has_helper r = has_bit r.flags 5

-- bit 6: helper own
abbrev pub helper_is_own : Resolved → Bool
helper_is_own r = has_bit r.flags 6

-- bit 7: probe
abbrev pub is_probe : Resolved → Bool
is_probe r = has_bit r.flags 7

-- bit 8: is-enabled
abbrev pub is_enabled : Resolved → Bool
is_enabled r = has_bit r.flags 8

-- no flag bit 9 or above, the last four bytes zero, not probe with is-enabled: what number 11 asks
unfoldable pub well_formed : Resolved → Bool
well_formed r = ltb r.flags (2 ^ 9) && (eqb r.zero 0 && not (is_probe r && is_enabled r))
