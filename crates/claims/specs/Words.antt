-- Decoders and encoders against the manual (RULES 1.6, 1.30, 7.11 to 7.31, 7.34): what each answers, what each makes, and where in reach the made words lead.
use Rattle.std.specs.Prelude.{◌≡◌, true, false, ◌&&◌, ◌||◌, not, ℕ, ◌*◌, ◌/◌, ◌%◌, ◌^◌, ◌≤◌, ◌<◌, eqb, Ok, Err, Some, None}
use Rattle.util.specs.Choice.{choose}
use Rattle.util.specs.Bits.{field, has_bit, extend}
use Rattle.util.specs.Wrap.{sum, diff}
use Rattle.util.specs.Diagram.{matches}
use Rattle.arm64_insn.specs.Encoding.{add_unshifted, load_store, ldr_immediate}
use Rattle.arm64_insn.specs.LoadStoreTable.{row_of, literal_row_of, moved_by, moves}
use Rattle.arm64_insn.specs.Manual.{ADR, ADRP, ADD, LDST, PRFM, LDR-literal, B, BL, BR, NOP, MOVZ, instruction, encode, decode, allocated}
use Rattle.arm64_insn.specs.Manual.{rd_in, rn_in, imm12_in, sf_in, size_in, v_in, opc_in, row_in}
use Rattle.arm64_insn.specs.ManualTargets.{adr_target, literal_target, branch_target, access_address, add_value, movz_value}
use Rattle.arm64_insn.specs.Page.{page_of, adrp_page}
use Rattle.arm64_insn.specs.Reach.{page_imm, adrp_reaches, within1mb}
use Rattle.arm64_insn.specs.Adrp.{adrp_of, adr_word}
use Rattle.arm64_insn.specs.Add.{add_of}
use Rattle.arm64_insn.specs.LoadStore.{load_store_from, load_store_of, load_store_in}
use Rattle.arm64_insn.specs.LoadStoreSplit.{load_store_by_split}
use Rattle.arm64_insn.specs.Literal.{has_literal_form, literal_opc, literal_v, literal_word, Rebased, base_word}
use Rattle.arm64_insn.specs.Branch.{branch_reaches, branch_word, helper_word}
use Rattle.arm64_insn.specs.Stub.{stub_words, thunk_words}
use Rattle.arm64_insn.specs.Fix.{nop_word, is_enabled_word, adrp_with, scale_of, offset_with, relaxed_word}
use Rattle.arm64_insn.specs.declared.adrp.Adrp as A
use Rattle.arm64_insn.specs.declared.add.Add as D
use Rattle.arm64_insn.specs.declared.ldst.LoadStore as L
use Rattle.arm64_reader.specs.Check.{loaded_bytes, got_fits, tlvp_fits}
use Rattle.arm64_reader.specs.Words.{is_unshifted_add, loaded_by}

-- single words: what is decoded, made and patched, and what they mean
pub record Words : Type 0 where
  -- RULES 7.16: `Adrp::decode` answers the manual's ADRP, and nothing else
  pub adrp-decodes : (w : ℕ) (a : A.Adrp) → adrp_of w ≡ Some a → decode w ≡ instruction (ADRP a.rd a.imm)
  pub decodes-adrp : (w rd imm : ℕ) → decode w ≡ instruction (ADRP rd imm) → adrp_of w ≡ Some (record { rd = rd; imm = imm })
  -- RULES 7.17: `Add::decode` answers the manual's ADD of 64 bits with an unshifted immediate, and nothing else
  pub add-decodes : (w : ℕ) (a : D.Add) → add_of w ≡ Some a → decode w ≡ instruction (ADD 1 0 a.rd a.rn a.imm)
  pub decodes-add : (w rd rn imm : ℕ) → w < 2 ^ 32 → decode w ≡ instruction (ADD 1 0 rd rn imm)
      → add_of w ≡ Some (record { rd = rd; rn = rn; imm = imm })
  -- RULES 7.18: `LoadStore::decode` is the manual: of every word, what the word's instruction is as a load or store, and none of any other instruction
  pub load-store-manual : (w : ℕ) → load_store_of w ≡ load_store_in w (decode w)
  -- so it answers every load and store of the manual, and nothing else
  pub decodes-load-store : (w size v opc rt rn imm12 : ℕ) → decode w ≡ instruction (LDST size v opc rt rn imm12)
      → load_store_of w ≡ Some (load_store_from w v rt rn imm12 (row_of size v opc))
  pub load-store-decodes : (w : ℕ) (l : L.LoadStore) → load_store_of w ≡ Some l
      → decode w ≡ instruction (LDST (size_in w) (v_in w) (opc_in w) l.reg l.base (imm12_in w))
  -- RULES 7.34: the split by bit 26, then the size, then bit 23, then bit 22 answers what the decoder does, for every word, of the class or not
  pub load-store-split : (w : ℕ) → load_store_of w ≡ load_store_by_split w
  -- RULES 7.20: LDRSW is marked where bit 26 is clear, the size is 10, bit 23 is set and bit 22 is clear
  pub ldrsw-marked : (w : ℕ) (l : L.LoadStore) → load_store_of w ≡ Some l
      → l.is_ldrsw ≡ (not (has_bit w 26) && (eqb (size_in w) 0b10 && (has_bit w 23 && not (has_bit w 22))))
  -- RULES 7.19: no decoder takes a word that the manual leaves unallocated
  pub unallocated-none : (w : ℕ) → allocated w ≡ false
      → (adrp_of w ≡ None) × (add_of w ≡ None) × (load_store_of w ≡ None)
  -- RULES 4.8: what a GOT page offset may stand on: an unshifted ADD of either width, an 8-byte load
  pub got-fits : (w : ℕ) → w < 2 ^ 32 → got_fits w ≡ (is_unshifted_add (decode w) || eqb (loaded_by (decode w)) 8)
  -- what a TLVP page offset may stand on: any load, and so no word that the manual leaves unallocated
  pub tlvp-fits : (w : ℕ) → tlvp_fits w ≡ not (eqb (loaded_by (decode w)) 0)
  pub tlvp-unallocated : (w : ℕ) → allocated w ≡ false → tlvp_fits w ≡ false
  -- the two tests behind them
  pub add_is : (w : ℕ) → w < 2 ^ 32 → matches add_unshifted w ≡ is_unshifted_add (decode w)
  pub loaded-is : (w : ℕ) → loaded_bytes w ≡ loaded_by (decode w)
  -- `is_add_either` holds of the ADDs with an unshifted immediate
  pub add-either-decodes : (w : ℕ) → matches add_unshifted w ≡ true → decode w ≡ instruction (ADD (sf_in w) 0 (rd_in w) (rn_in w) (imm12_in w))
  pub decodes-add-either : (w sf rd rn imm12 : ℕ) → w < 2 ^ 32 → decode w ≡ instruction (ADD sf 0 rd rn imm12) → matches add_unshifted w ≡ true
  -- `is_ldr_imm` holds of LDR of a W or X register
  pub ldr-imm-decodes : (w : ℕ) → matches ldr_immediate w ≡ true
      → (2 ≤ size_in w) × (decode w ≡ instruction (LDST (size_in w) 0 0b01 (rd_in w) (rn_in w) (imm12_in w)))
  pub decodes-ldr-imm : (w size rt rn imm12 : ℕ) → w < 2 ^ 32 → 2 ≤ size → decode w ≡ instruction (LDST size 0 0b01 rt rn imm12)
      → matches ldr_immediate w ≡ true
  -- the scale of a page offset is that of the bytes that a load or store moves; of PRFM and the unallocated words of that class the size field's; of
  -- any other word none
  pub load-store-scale : (w size v opc rt rn imm12 : ℕ) → decode w ≡ instruction (LDST size v opc rt rn imm12) → 2 ^ scale_of w ≡ moved_by (row_of size v opc)
  pub unmoved-scale : (w : ℕ) → matches load_store w ≡ true → moves (row_in w) ≡ false → scale_of w ≡ size_in w
  pub other-scale : (w : ℕ) → matches load_store w ≡ false → scale_of w ≡ 0
  -- RULES 7.22 to 7.31: each made word is the instruction meant, each patched word the old instruction with one field replaced. ADR
  pub adr-made : (rd target pc : ℕ) → rd < 32 → decode (adr_word rd target pc) ≡ instruction (ADR rd (field (diff target pc) 0 21))
  -- a patched ADRP
  pub adrp-patched : (w rd imm hi lo : ℕ) → w < 2 ^ 32 → decode w ≡ instruction (ADRP rd imm)
      → decode (adrp_with w hi lo) ≡ instruction (ADRP rd (page_imm hi lo))
  -- an ADD, a load or store, a prefetch with the page offset
  pub add-patched : (w sf sh rd rn imm12 val : ℕ) → decode w ≡ instruction (ADD sf sh rd rn imm12)
      → offset_with w val ≡ Ok (encode (ADD sf sh rd rn (field val 0 12)))
  pub load-store-patched : (w size v opc rt rn imm12 val : ℕ) → decode w ≡ instruction (LDST size v opc rt rn imm12)
      → offset_with w val
      ≡ choose (eqb (val % moved_by (row_of size v opc)) 0)
      (Ok (encode (LDST size v opc rt rn (val % 2 ^ 12 / moved_by (row_of size v opc)))))
      (Err (moved_by (row_of size v opc)))
  pub prefetch-patched : (w rt rn imm12 val : ℕ) → decode w ≡ instruction (PRFM rt rn imm12)
      → offset_with w val ≡ choose (eqb (val % 8) 0) (Ok (encode (PRFM rt rn (val % 2 ^ 12 / 8)))) (Err 8)
  -- a patched B or BL, and a helper's
  pub b-patched : (w imm26 d : ℕ) → decode w ≡ instruction (B imm26) → decode (branch_word w d) ≡ instruction (B (field d 2 26))
  pub bl-patched : (w imm26 d : ℕ) → decode w ≡ instruction (BL imm26) → decode (branch_word w d) ≡ instruction (BL (field d 2 26))
  pub helper-made : (d : ℕ) → (decode (helper_word true d) ≡ instruction (B (field d 2 26))) × (decode (helper_word false d) ≡ instruction (BL (field d 2 26)))
  -- a relaxed load is a 64-bit ADD of its registers
  pub relaxed-made : (w target : ℕ) → decode (relaxed_word w target) ≡ instruction (ADD 1 0 (rd_in w) (rn_in w) (field target 0 12))
  -- the words of probes
  pub nop-made : decode nop_word ≡ instruction NOP
  pub is-enabled-made : (decode is_enabled_word ≡ instruction (MOVZ 1 0 0 0)) × (movz_value 0 0 ≡ 0)
  -- a stub: ADRP x16; LDR x16, [x16]; BR x16. A thunk has an ADD in the middle
  pub stub-made : (addr pointer : ℕ)
      → (decode (stub_words addr pointer).first ≡ instruction (ADRP 16 (page_imm pointer addr)))
      × (decode (stub_words addr pointer).second ≡ instruction (LDST 0b11 0 0b01 16 16 (field pointer 3 9)))
      × (decode (stub_words addr pointer).third ≡ instruction (BR 16))
  pub thunk-made : (addr target : ℕ)
      → (decode (thunk_words addr target).first ≡ instruction (ADRP 16 (page_imm target addr)))
      × (decode (thunk_words addr target).second ≡ instruction (ADD 1 0 16 16 (field target 0 12)))
      × (decode (thunk_words addr target).third ≡ instruction (BR 16))
  -- a load or store through another base
  pub based-made : (w size v opc rt rn imm12 base offset : ℕ) (l : L.LoadStore) → decode w ≡ instruction (LDST size v opc rt rn imm12)
      → load_store_of w ≡ Some l → Rebased l base offset
      → decode (base_word l base offset) ≡ instruction (LDST size v opc rt base (offset / l.size))
  -- a literal load, and it loads what the load loaded
  pub literal-made : (l : L.LoadStore) (target pc : ℕ) → l.reg < 32
      → decode (literal_word l target pc)
      ≡ instruction
      (LDR-literal (literal_opc l.size l.is_float l.is_ldrsw) (literal_v l.size l.is_float) l.reg (field (diff target pc) 2 19))
  pub literal-row : (w size v opc rt rn imm12 : ℕ) (l : L.LoadStore) → decode w ≡ instruction (LDST size v opc rt rn imm12)
      → load_store_of w ≡ Some l → has_literal_form l ≡ true
      → literal_row_of (literal_opc l.size l.is_float l.is_ldrsw) (literal_v l.size l.is_float) ≡ row_of size v opc
  -- RULES 7.11: what ADRP makes is the manual's sum
  pub adrp-page : (imm p : ℕ) → adrp_page imm p ≡ sum (page_of p) (extend (imm * 2 ^ 12) 33)
  -- RULES 7.12 to 7.15: in reach, each immediate leads to the target meant. ADR
  pub adr-means : (target pc : ℕ) → target < 2 ^ 64 → pc < 2 ^ 64 → within1mb pc target ≡ true → adr_target (field (diff target pc) 0 21) pc ≡ target
  -- a literal load
  pub literal-means : (target pc : ℕ) → target < 2 ^ 64 → pc < 2 ^ 64 → within1mb pc target ≡ true → target % 4 ≡ 0 → pc % 4 ≡ 0
      → literal_target (field (diff target pc) 2 19) pc ≡ target
  -- B and BL
  pub branch-means : (target pc : ℕ) → target < 2 ^ 64 → pc < 2 ^ 64 → branch_reaches target pc ≡ true → target % 4 ≡ 0 → pc % 4 ≡ 0
      → branch_target (field (diff target pc) 2 26) pc ≡ target
  -- ADRP; with an ADD; with a load or store whose size divides the target; the load of a stub
  pub adrp-means : (target pc : ℕ) → target < 2 ^ 64 → pc < 2 ^ 64 → adrp_reaches target pc ≡ true → adrp_page (page_imm target pc) pc ≡ page_of target
  pub add-means : (target pc : ℕ) → target < 2 ^ 64 → pc < 2 ^ 64 → adrp_reaches target pc ≡ true
      → add_value 1 0 (adrp_page (page_imm target pc) pc) (field target 0 12) ≡ target
  pub access-means : (target pc : ℕ) → target < 2 ^ 64 → pc < 2 ^ 64 → (w size v opc rt rn imm12 : ℕ) → decode w ≡ instruction (LDST size v opc rt rn imm12)
      → adrp_reaches target pc ≡ true → target % moved_by (row_of size v opc) ≡ 0
      → access_address (row_of size v opc) (adrp_page (page_imm target pc) pc) (target % 2 ^ 12 / moved_by (row_of size v opc)) ≡ target
  pub stub-means : (target pc : ℕ) → target < 2 ^ 64 → pc < 2 ^ 64 → adrp_reaches target pc ≡ true → target % 8 ≡ 0
      → access_address (row_of 0b11 0 0b01) (adrp_page (page_imm target pc) pc) (field target 3 9) ≡ target
