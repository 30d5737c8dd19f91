-- Hint payloads (RULES 14): the values that bytes spell, the rows that payloads hold, what is written of a row, and both as calls. That a refused call
-- changes nothing is among Calls.
use Rattle.std.specs.Prelude.{◌≡◌, true, false, ◌⊎◌, List, [], ◌∷◌, ◌++◌, ℕ, suc, ◌+◌, ◌-◌, ◌*◌, ◌^◌, ◌≤◌, ◌<◌, length, drop, replicate}
use Rattle.util.specs.All.{All}
use Rattle.macho.specs.declared.refusal.Refusal.{Refusal}
use Rattle.macho.specs.declared.refusal.Refusal.TheVariants.{Malformed, Trailing}
use Rattle.uleb.specs.Values.{Values, ended, cut, next, values_of}
use Rattle.uleb.specs.Shortest.{uleb_of, ulebs_of, are_short}
use Rattle.uleb.specs.Spelling.{spelling, SpelledIn, Spells}
use Rattle.hint_payload.specs.Row.{is_whole}
use Rattle.hint_payload.specs.Payload.{holds, fails, all_zero, payload_of}
use Rattle.hint_payload.specs.Answer.{row_to, bytes_to}
use Rattle.hint_payload.specs.Hints.{hint_row, NoKindZero, HasHints}
use Rattle.hint_payload.specs.Exact.{Closed, ClosedByKind, HasTrailing, IsBroken}
use Rattle.hauklivo.specs.Payload.{read_number_to, read_count_to, write_number_to, write_count_to}

-- nine bytes ff, and then bytes
abbrev pub nine_full : List ℕ → List ℕ
nine_full bytes = replicate 9 0xff ++ bytes

-- payloads, rows, and the calls that read and write them
pub record Payloads : Type 0 where
  -- RULES 14.2: a value is the same whatever follows its spelling
  pub follows : (s p : List ℕ) (v : ℕ) → values_of s ≡ next v [] ended → values_of (s ++ p) ≡ next v p (values_of p)
  -- the bytes after it spell the rest
  pub rest : (bytes : List ℕ) (v : ℕ) (after : List ℕ) (rest : Values) → values_of bytes ≡ next v after rest → rest ≡ values_of after
  -- a value is read from a spelling of any length that has room for it
  pub any-length : (n v : ℕ) (after : List ℕ) → v < 2 ^ (7 * suc n) → values_of (spelling n v ++ after) ≡ next v after (values_of after)
  -- and from no other bytes
  pub only-spellings : (bytes : List ℕ) (v : ℕ) (after : List ℕ) (rest : Values) → All (λ b. b < 256) bytes → values_of bytes ≡ next v after rest
      → SpelledIn bytes v after
  -- no value is left where no byte is
  pub ended_is : values_of [] ≡ ended
  pub only-ended : (bytes : List ℕ) → values_of bytes ≡ ended → bytes ≡ []
  -- bytes are cut off where there are some and each says that more follow
  pub cut-is : (b : ℕ) (bytes : List ℕ) → All (λ x. 128 ≤ x) (b ∷ bytes) → values_of (b ∷ bytes) ≡ cut
  pub only-cut : (bytes : List ℕ) → values_of bytes ≡ cut → (1 ≤ length bytes) × All (λ x. 128 ≤ x) bytes
  -- 0 has a spelling of any length: 00, 80 00, 80 80 00
  pub zero-spelled : (n : ℕ) → values_of (replicate n 0x80 ++ (0 ∷ [])) ≡ next 0 [] ended
  -- RULES 14.3: the shortest spelling is a spelling
  pub value-back : (v : ℕ) (after : List ℕ) → v < 2 ^ 64 → values_of (uleb_of v ++ after) ≡ next v after (values_of after)
  -- none is shorter
  pub shortest : (bytes : List ℕ) (v : ℕ) (after : List ℕ) (rest : Values) → values_of bytes ≡ next v after rest
      → length (uleb_of v) + length after ≤ length bytes
  -- it has one to ten bytes
  pub sizes : (v : ℕ) → (1 ≤ length (uleb_of v)) × (length (uleb_of v) ≤ 10) × All (λ b. b < 256) (uleb_of v)
  -- shortest spellings one after another spell their values, pass the test for them, and no bytes that spell these values are fewer
  pub written-spell : (row : List ℕ) → All (λ v. v < 2 ^ 64) row → Spells (ulebs_of row) row
  pub written-short : (row : List ℕ) → All (λ v. v < 2 ^ 64) row → are_short (ulebs_of row) ≡ true
  pub written-shortest : (p row : List ℕ) → Spells p row → length (ulebs_of row) ≤ length p
  -- RULES 14.1: the rows are those of hints, none of kind 0
  pub hints-whole : (hints : List (ℕ × List ℕ)) → NoKindZero hints → is_whole (hint_row hints) ≡ true
  pub whole-hints : (row : List ℕ) → is_whole row ≡ true → HasHints row
  -- a payload holds such a row, of 64-bit values, no more than its bytes
  pub holds-hints : (p row : List ℕ) → payload_of p ≡ holds row → (is_whole row ≡ true) × All (λ v. v < 2 ^ 64) row × (length row ≤ length p)
  -- RULES 14.5: the payload's end closes the list
  pub ends : (p row : List ℕ) → Spells p row → is_whole row ≡ true → All (λ v. v < 2 ^ 64) row → payload_of p ≡ holds row
  -- so does kind 0 in any spelling, with zeros after it
  pub closes : (p row after : List ℕ) → Closed p row after → is_whole row ≡ true → All (λ v. v < 2 ^ 64) row → all_zero after ≡ true
      → payload_of p ≡ holds row
  -- and nothing else
  pub only-holds : (p row : List ℕ) → payload_of p ≡ holds row → (is_whole row ≡ true) × All (λ v. v < 2 ^ 64) row × (Spells p row ⊎ ClosedByKind p row)
  -- RULES 14.6: 13 is where the payload ends within a value or a hint, or a value before the close is 2^64 or more
  pub malformed : (p : List ℕ) → IsBroken p → payload_of p ≡ fails Malformed
  pub only-malformed : (p : List ℕ) → payload_of p ≡ fails Malformed → IsBroken p
  -- RULES 14.7: 14 is where a byte after the close is not zero
  pub trailing : (p : List ℕ) → HasTrailing p → payload_of p ≡ fails Trailing
  pub only-trailing : (p : List ℕ) → payload_of p ≡ fails Trailing → HasTrailing p
  -- a payload fails in no other way
  pub only-fails : (p : List ℕ) (x : Refusal) → payload_of p ≡ fails x → (x ≡ Trailing) ⊎ (x ≡ Malformed)
  -- examples: no payload, and kind 0 in two spellings
  pub none : payload_of [] ≡ holds []
  pub zero-kind : (payload_of (0 ∷ []) ≡ holds []) × (payload_of (0x80 ∷ 0 ∷ []) ≡ holds [])
  -- a count of 0 and an address of 0 close nothing
  pub zero-count : payload_of (7 ∷ 0 ∷ 7 ∷ 0 ∷ []) ≡ holds (7 ∷ 0 ∷ 7 ∷ 0 ∷ [])
  pub zero-address : payload_of (7 ∷ 1 ∷ 0 ∷ 7 ∷ 1 ∷ 0 ∷ []) ≡ holds (7 ∷ 1 ∷ 0 ∷ 7 ∷ 1 ∷ 0 ∷ [])
  -- padding after the close, and 80 in it
  pub padded : payload_of (7 ∷ 1 ∷ 4 ∷ 0 ∷ 0 ∷ []) ≡ holds (7 ∷ 1 ∷ 4 ∷ [])
  pub not-padded : payload_of (0 ∷ 0x80 ∷ []) ≡ fails Trailing
  -- cut off within a value, within a hint, and by a count of 2^64 - 1
  pub cut-value : payload_of (0x80 ∷ []) ≡ fails Malformed
  pub cut-hint : payload_of (7 ∷ 2 ∷ 0 ∷ []) ≡ fails Malformed
  pub cut-count : payload_of (7 ∷ nine_full (1 ∷ [])) ≡ fails Malformed
  -- RULES 14.8: kind 300, kind 9 with 3 addresses, kind 1 with one
  pub any-kind : (payload_of (0xac ∷ 2 ∷ 0 ∷ []) ≡ holds (300 ∷ 0 ∷ []))
      × (payload_of (9 ∷ 3 ∷ 4 ∷ 8 ∷ 12 ∷ []) ≡ holds (9 ∷ 3 ∷ 4 ∷ 8 ∷ 12 ∷ []))
      × (payload_of (1 ∷ 1 ∷ 4 ∷ []) ≡ holds (1 ∷ 1 ∷ 4 ∷ []))
  -- the largest value, and one above it
  pub largest : payload_of (7 ∷ 1 ∷ nine_full (1 ∷ [])) ≡ holds (7 ∷ 1 ∷ (2 ^ 64 - 1) ∷ [])
  pub above-largest : payload_of (7 ∷ 1 ∷ nine_full (2 ∷ [])) ≡ fails Malformed
  -- RULES 14.9: the reader's call
  pub call-read : (p slots : List ℕ) (count : ℕ) (row : List ℕ) → payload_of p ≡ holds row → length p ≤ 2 ^ 32 - 1 → length p ≤ length slots
      → (read_number_to p slots ≡ 0) × (read_count_to p slots count ≡ length row) × (row_to p slots ≡ row ++ drop (length row) slots)
  -- RULES 3.18: 1 comes first, then 2, then 13 and 14
  pub read-long : (p slots : List ℕ) → 2 ^ 32 - 1 < length p → read_number_to p slots ≡ 1
  pub read-narrow : (p slots : List ℕ) → length p ≤ 2 ^ 32 - 1 → length slots < length p → read_number_to p slots ≡ 2
  pub read-malformed : (p slots : List ℕ) → length p ≤ 2 ^ 32 - 1 → length p ≤ length slots → payload_of p ≡ fails Malformed → read_number_to p slots ≡ 13
  pub read-trailing : (p slots : List ℕ) → length p ≤ 2 ^ 32 - 1 → length p ≤ length slots → payload_of p ≡ fails Trailing → read_number_to p slots ≡ 14
  -- RULES 3.1: the byte 80; the bytes 07 02 00
  pub number-13 : (read_number_to (0x80 ∷ []) (0 ∷ []) ≡ 13) × (read_number_to (7 ∷ 2 ∷ 0 ∷ []) (0 ∷ 0 ∷ 0 ∷ []) ≡ 13)
  -- the bytes 00 80
  pub number-14 : read_number_to (0 ∷ 0x80 ∷ []) (0 ∷ 0 ∷ []) ≡ 14
  -- RULES 14.10: the writer's call
  pub call-write : (row out : List ℕ) (count : ℕ) → is_whole row ≡ true → length row ≤ 2 ^ 32 - 1 → 10 * length row ≤ length out
      → (write_number_to row out ≡ 0)
      × (write_count_to row out count ≡ length (ulebs_of row))
      × (bytes_to row out ≡ ulebs_of row ++ drop (length (ulebs_of row)) out)
  -- RULES 3.18: 1 comes first, for either reason, then 2
  pub write-long : (row out : List ℕ) → 2 ^ 32 - 1 < length row → write_number_to row out ≡ 1
  pub write-broken : (row out : List ℕ) → is_whole row ≡ false → write_number_to row out ≡ 1
  pub write-narrow : (row out : List ℕ) → is_whole row ≡ true → length row ≤ 2 ^ 32 - 1 → length out < 10 * length row → write_number_to row out ≡ 2
  -- a row of two addresses above 127; one with a kind 0 and one that ends within a hint are 1
  pub written : ulebs_of (7 ∷ 2 ∷ 0x198 ∷ 0x19c ∷ []) ≡ 7 ∷ 2 ∷ 0x98 ∷ 3 ∷ 0x9c ∷ 3 ∷ []
  pub writer-1 : (out : List ℕ) → (write_number_to (0 ∷ 0 ∷ []) out ≡ 1) × (write_number_to (7 ∷ 2 ∷ 0 ∷ []) out ≡ 1)
  -- RULES 14.11: a row that is written is read back
  pub row_back : (row : List ℕ) → is_whole row ≡ true → All (λ v. v < 2 ^ 64) row → payload_of (ulebs_of row) ≡ holds row
  -- by the calls, where it is no more than 2^32 - 1 bytes
  pub read_again : (row slots : List ℕ) (count : ℕ) → is_whole row ≡ true → All (λ v. v < 2 ^ 64) row → length (ulebs_of row) ≤ 2 ^ 32 - 1
      → length (ulebs_of row) ≤ length slots
      → (read_number_to (ulebs_of row) slots ≡ 0)
      × (read_count_to (ulebs_of row) slots count ≡ length row)
      × (row_to (ulebs_of row) slots ≡ row ++ drop (length row) slots)
  -- so is a row that was read, from no more bytes
  pub held_back : (p row : List ℕ) → payload_of p ≡ holds row → (payload_of (ulebs_of row) ≡ holds row) × (length (ulebs_of row) ≤ length p)
  -- what the reader's call reads the writer's call writes
  pub written-again : (p row out : List ℕ) → payload_of p ≡ holds row → length p ≤ 2 ^ 32 - 1 → 10 * length row ≤ length out → write_number_to row out ≡ 0
  -- shortest spellings that no kind 0 closes are written byte for byte as they were read
  pub same_bytes : (p row : List ℕ) → Spells p row → payload_of p ≡ holds row → All (λ b. b < 256) p → are_short p ≡ true → ulebs_of row ≡ p
