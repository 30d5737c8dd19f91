-- What closed examples compute with: to unfold one of these names is to unfold all that its line names.
use Rattle.util.specs.Choice.{choose}
use Rattle.util.specs.Word.{le, put, bytes}
use Rattle.util.specs.Wrap.{in_range}
use Rattle.util.proofs.Below.{every}
use Rattle.macho.specs.Record.{bytes_of, list_bytes}
use Rattle.macho.specs.Reloc.{reloc_at, reloc_bytes}
use Rattle.macho.specs.Hint.{insn_at, hint_at, hint_bytes, word_count}
use Rattle.arm64_insn.specs.Manual.{decode, allocated}
use Rattle.arm64_insn.specs.ManualTargets.{adr_target, literal_target, access_address, add_value}
use Rattle.arm64_insn.specs.Page.{page_of, adrp_page}
use Rattle.arm64_insn.specs.Reach.{within1mb}
use Rattle.arm64_insn.specs.Adrp.{adrp_of, adr_word}
use Rattle.arm64_insn.specs.Add.{add_of}
use Rattle.arm64_insn.specs.LoadStore.{load_store_of}
use Rattle.arm64_insn.specs.LoadStoreTable.{row_of, literal_row_of}
use Rattle.arm64_insn.specs.Links.{makes, takes, links31, adds31}
use Rattle.arm64_insn.specs.Literal.{has_literal_form, literal_opc, literal_v, literal_word, base_word}
use Rattle.arm64_hint_terms.specs.Rels.{rel_at, is_page_rel, is_pageoff_rel, same_reference, is_absent, has_page_pair, both_pages}
use Rattle.arm64_hint_terms.specs.Answer.{sum_of, fits_literal}
use Rattle.arm64_hint_adrp.specs.Two.{same_page, adrp_adrp, ldr_second, ldr_at_page, adrp_ldr, adr_to, add_at_page, adrp_add}
use Rattle.arm64_hint_adrp.specs.Three.{add_access, through, folds, fold_third, fold_or_adr, load_through, adrp_add_ldr, adrp_add_str}
use Rattle.arm64_hint_got.specs.Got.{loads_slot, slot_load, relaxed_load, got_load, adrp_ldr_got, slot_to, got_literal, fold_load, adr_or_fold_load, relaxed_to}
use Rattle.arm64_hint_got.specs.Got.{relaxed_ldr, adrp_ldr_got_ldr, relaxed_str, adrp_ldr_got_str}
use Rattle.arm64_hint_laws.specs.Decide.{by_rule, bars31, decide}
use Rattle.arm64_machine.specs.Machine.{action, read, write, set_x, set_sp, set_v, set_memory, listed, base, moved}
use Rattle.arm64_machine.specs.Premises.{stores_made}
use Rattle.arm64_hint_places.specs.Hint.{is_skipped, insns_in, insns_of, rels_of}
use Rattle.arm64_hint_check.specs.Check.{is_list, check_lists, check_hint, check_to, check_all}
use Rattle.arm64_hint_rules.specs.Rule.{hint_outcome}
use Rattle.arm64_hint_run.specs.Run.{worked, run_of, image_of}

-- lent records
unfoldable pub records : Unit {0}
unfolding choose le put bytes every bytes_of list_bytes reloc_at reloc_bytes insn_at hint_at hint_bytes word_count
records = tt

-- words taken apart and made
unfoldable pub words : Unit {0}
unfolding in_range page_of adrp_page within1mb adrp_of adr_word add_of row_of load_store_of has_literal_form literal_opc literal_v literal_word base_word
words = tt

-- the rules
unfoldable pub rules : Unit {0}
unfolding
    is_page_rel is_pageoff_rel same_reference is_absent has_page_pair both_pages sum_of fits_literal same_page adrp_adrp ldr_second ldr_at_page adrp_ldr
    adr_to add_at_page adrp_add add_access through folds fold_third fold_or_adr load_through adrp_add_ldr adrp_add_str loads_slot slot_load relaxed_load got_load
    adrp_ldr_got slot_to got_literal fold_load adr_or_fold_load relaxed_to relaxed_ldr adrp_ldr_got_ldr relaxed_str adrp_ldr_got_str by_rule
    makes takes links31 adds31 bars31 decide
rules = tt

-- the run
unfoldable pub runs : Unit {0}
unfolding records words rules rel_at is_skipped insns_in insns_of rels_of hint_outcome is_list check_lists check_hint check_to check_all worked run_of image_of
runs = tt

-- the machine and its premises
unfoldable pub machine : Unit {0}
unfolding
    decode allocated literal_row_of adr_target literal_target access_address add_value action read write set_x set_sp set_v set_memory listed base moved
    stores_made
machine = tt
