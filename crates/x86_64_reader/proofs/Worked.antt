-- What the sections of tools/records/worked.s read to: each is computed. The comments have the instruction or pointer of each entry.
use mathlib.Core.Path.{◌≡◌, refl}
use mathlib.Core.List.{[], ◌∷◌}
use Prim.Native.Nat.{◌-◌, ◌*◌, ◌^◌}
use lib.ListN.{replicate}
use Rattle.util.specs.Choice.{choose}
use Rattle.util.specs.Word.{le}
use Rattle.macho.specs.MachRel.{mach_rel_at}
use Rattle.arch.specs.Table.{records_from, records_of, subtracted_at, lengths_of}
use Rattle.arch.specs.Walk.{entries, read_from, read_all}
use Rattle.x86_64_reader.specs.Support.{supported_of}
use Rattle.x86_64_reader.specs.Addend.{width_of, bias_of, embedded_at, added_by}
use Rattle.x86_64_reader.specs.Record.{check_reloc, entry_at, step_at}
use Rattle.x86_64_reader.specs.Read.{read_records, read_relocs}
use Rattle.x86_64_reader.specs.Worked.{addresses, text_bytes, text_records, far_bytes, far_records, table_bytes, table_records}
use Rattle.x86_64_reader.specs.Examples.{entry, symbol, section}

pub text : read_relocs text_bytes text_records addresses 0 (replicate (24 * 10) 0)
    ≡ entries (entry 0x40 9 4 1 0 (symbol 2) 0  -- movq _foo@TLVP(%rip), %rdi
    ∷ entry 0x35 8 4 1 0 (symbol 2) 0  -- movl $0x12345678, _foo(%rip)
    ∷ entry 0x2d 7 4 1 0 (symbol 2) 0  -- movw $0x1234, _foo(%rip)
    ∷ entry 0x25 6 4 1 0 (symbol 2) 0  -- movb $0x12, _foo(%rip)
    ∷ entry 0x1f 1 4 1 0 (symbol 2) 4  -- movl _foo+4(%rip), %eax
    ∷ entry 0x19 1 4 1 0 (symbol 2) 0  -- movl _foo(%rip), %eax
    ∷ entry 0x13 4 4 1 0 (symbol 2) 0  -- pushq _foo@GOTPCREL(%rip)
    ∷ entry 0x0d 3 4 1 0 (symbol 2) 0  -- movq _foo@GOTPCREL(%rip), %rax
    ∷ entry 0x06 2 4 1 0 (symbol 2) 4  -- callq _foo+4
    ∷ entry 0x01 2 4 1 0 (symbol 2) 0  -- callq _foo
    ∷ [])
unfolding read_relocs read_records read_all read_from choose lengths_of records_of records_from mach_rel_at le subtracted_at step_at entry_at check_reloc
    supported_of width_of bias_of embedded_at added_by
text = refl

pub far : read_relocs far_bytes far_records addresses 0x44 (replicate (24 * 8) 0)
    ≡ entries (entry 0x36 2 1 1 0 (symbol 2) (2 ^ 64 - 3)  -- loop _foo-3
    ∷ entry 0x31 2 4 1 0 (section 2) 0  -- callq L2
    ∷ entry 0x2c 2 4 1 0 (symbol 0) 0  -- callq _code
    ∷ entry 0x23 7 4 1 0 (section 4) 8  -- movl $0x12345678, L0+2(%rip), to which LLVM gives SIGNED_2
    ∷ entry 0x19 8 4 1 0 (section 4) 8  -- movl $0x12345678, L0(%rip)
    ∷ entry 0x11 7 4 1 0 (section 4) 8  -- movw $0x1234, L0(%rip)
    ∷ entry 0x09 6 4 1 0 (section 4) 8  -- movb $0x12, L0(%rip)
    ∷ entry 0x03 1 4 1 0 (section 4) 8  -- leaq L0(%rip), %rax
    ∷ [])
unfolding read_relocs read_records read_all read_from choose lengths_of records_of records_from mach_rel_at le subtracted_at step_at entry_at check_reloc
    supported_of width_of bias_of embedded_at added_by
far = refl

pub table : read_relocs table_bytes table_records addresses 0x7c (replicate (24 * 12) 0)
    ≡ entries (entry 0x38 0 4 0 0 (section 4) 7  -- .long L0-1
    ∷ entry 0x30 0 8 0 0 (section 1) 1  -- .quad L1+1
    ∷ entry 0x28 0 8 0 0 (section 4) 8  -- .quad L0
    ∷ entry 0x24 0 4 0 0 (symbol 2) (2 ^ 64 - 1)  -- .long _foo-1
    ∷ entry 0x20 5 4 0 0 (symbol 1) 0  -- .long _code - _bar
    ∷ entry 0x20 0 4 0 1 (symbol 0) 0
    ∷ entry 0x18 5 8 0 0 (symbol 1) 4  -- .quad _code - _bar + 4
    ∷ entry 0x18 0 8 0 1 (symbol 0) 4
    ∷ entry 0x10 5 8 0 0 (symbol 1) 0  -- .quad _code - _bar
    ∷ entry 0x10 0 8 0 1 (symbol 0) 0
    ∷ entry 0x08 0 8 0 0 (symbol 2) 4  -- .quad _foo+4
    ∷ entry 0x00 0 8 0 0 (symbol 2) 0  -- .quad _foo
    ∷ [])
unfolding read_relocs read_records read_all read_from choose lengths_of records_of records_from mach_rel_at le subtracted_at step_at entry_at check_reloc
    supported_of width_of bias_of embedded_at added_by
table = refl
