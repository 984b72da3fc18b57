-- What the drafts' files hold, computed from their bytes.
use mathlib.Core.Path.{◌≡◌, refl}
use Rattle.automaton.specs.Checks.{holds, number_at, kind_allowed, length_allowed, head_values, symbol_values, all_below, row_values, values, record_found, verdict_from, verdict}
use Rattle.claims.proofs.Worked.Drafts.{P, pairs, nested, endless, rowless, finalless, unused, order, grouping, exchanged}
use Rattle.claims.specs.DraftFiles.{file_p, file_pairs, file_nested, file_endless, file_rowless, file_finalless, file_unused, file_order, file_grouping, file_exchanged}

pub record DraftsHeld : Type 0 where
  pub p_held : verdict file_p ≡ holds P
  pub pairs_held : verdict file_pairs ≡ holds pairs
  pub nested_held : verdict file_nested ≡ holds nested
  pub endless_held : verdict file_endless ≡ holds endless
  pub rowless_held : verdict file_rowless ≡ holds rowless
  pub finalless_held : verdict file_finalless ≡ holds finalless
  pub unused_held : verdict file_unused ≡ holds unused
  pub order_held : verdict file_order ≡ holds order
  pub grouping_held : verdict file_grouping ≡ holds grouping
  pub exchanged_held : verdict file_exchanged ≡ holds exchanged

pub drafts-held : DraftsHeld
unfolding verdict verdict_from record_found values head_values symbol_values row_values all_below kind_allowed length_allowed number_at file_p file_pairs file_nested file_endless file_rowless file_finalless file_unused file_order file_grouping file_exchanged
drafts-held =
    record {
      p_held = refl;
      pairs_held = refl;
      nested_held = refl;
      endless_held = refl;
      rowless_held = refl;
      finalless_held = refl;
      unused_held = refl;
      order_held = refl;
      grouping_held = refl;
      exchanged_held = refl;
    }
