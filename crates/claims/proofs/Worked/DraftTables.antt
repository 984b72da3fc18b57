-- P's table as it stands in the words: its sizes and its listing; and P after one step.
use Prim.Native.Nat.{ℕ}
use mathlib.Core.Path.{◌≡◌, refl}
use mathlib.Core.List.{List, ◌∷◌, ◌++◌}
use lib.ListN.{length, take, get_or, replicate}
use Rattle.sets.specs.Members.{has, set_of, how_many, size, empty_set, one_set, union, without}
use Rattle.ground.specs.Lists.{filled, those}
use Rattle.expressions.specs.Nodes.{label_of, children, child_count}
use Rattle.expressions.specs.Words.{encode, decode, read_node, table_of, words_of}
use Rattle.expressions.specs.Unfolding.{exprs_of, built_of, built, unfolded, expr_at}
use Rattle.expressions.specs.Soundness.{cat_opens, opens_of, opens_in, completed}
use Rattle.expressions.specs.Sizes.{held_size, sizes_of}
use Rattle.buffers.specs.Decimal.{decimal_in, decimal}
use Rattle.listing.specs.Listing.{kind_name, label_fields, spaced, line, label_number, plain_label, head_fields, node_line, node_lines, answer_line, listing}
use Rattle.listing.specs.Answers.{listing_of}
use Rattle.theory.specs.RowLists.{ascending, final_states}
use Rattle.theory.specs.Stages.{holes_table, rule_shape, rules_table, start_table, rule_rows, start, alt_made, cat_made, iter_made, join_made_from, join_made, looping_node, incoming_node, outgoing_node, stand_in_made, replaced_made, replaced_rows, remains_node, eliminated_stage, eliminated_stages, stage_after, join_stage, converted, waits_for}
use Rattle.elimination.specs.Answers.{unused_place, list_row, list_of_rows, partly_done}
use Rattle.front.specs.Text.{converted_listing}
use Rattle.claims.proofs.Worked.Drafts.{P}
use Rattle.claims.specs.WorkedDrafts.{part, place, words_p, sizes_p, listing_p}

pub p_size : (rest : List ℕ) → held_size (expr_at (table_of (words_p ++ rest) 10) 9) ≡ 12
unfolding words_p table_of read_node decode expr_at unfolded built built_of exprs_of children child_count held_size
p_size rest = refl

pub P-sizes : (rest : List ℕ) → sizes_of (table_of (words_p ++ rest) 10) ≡ sizes_p
unfolding words_p sizes_p table_of read_node decode unfolded built built_of exprs_of children child_count held_size sizes_of
P-sizes rest = refl

pub p_listing : (rest : List ℕ) → listing_of (words_p ++ rest) 10 9 ≡ listing_p
unfolding words_p listing_p table_of read_node decode children child_count listing_of listing answer_line node_lines node_line head_fields plain_label label_number line spaced label_fields kind_name decimal decimal_in
p_listing rest = refl

pub listing-length : length listing_p ≡ 123
unfolding listing_p
listing-length = refl

-- after one step

pub P-one-done : partly_done (stage_after 1 P) ≡ part 0 8 3 (place 6 1 0 ∷ place 7 1 1 ∷ place 2 16 1 ∷ replicate 77 (place 0 0 0))
unfolding partly_done list_of_rows list_row filled waits_for size how_many stage_after eliminated_stages eliminated_stage start start_table holes_table rules_table rule_shape rule_rows final_states those ascending join_made join_made_from alt_made cat_made iter_made stand_in_made replaced_rows replaced_made looping_node incoming_node outgoing_node remains_node completed opens_in opens_of cat_opens children child_count label_of has union without one_set empty_set set_of
P-one-done = refl

pub P-one-words : words_of (stage_after 1 P).table ≡ take 48 words_p
unfolding words_p words_of encode stage_after eliminated_stages eliminated_stage start start_table holes_table rules_table rule_shape rule_rows final_states those ascending join_made join_made_from alt_made cat_made iter_made stand_in_made replaced_rows replaced_made looping_node incoming_node outgoing_node remains_node completed opens_in opens_of cat_opens children child_count label_of has union without one_set empty_set set_of
P-one-words = refl

-- the node of the first row after none, one and both of the states

pub P-none-first : (get_or (partly_done (stage_after 0 P)).list 0 unused_place).node ≡ 3
unfolding partly_done list_of_rows list_row filled waits_for size how_many stage_after eliminated_stages eliminated_stage start start_table holes_table rules_table rule_shape rule_rows final_states those ascending join_made join_made_from alt_made cat_made iter_made stand_in_made replaced_rows replaced_made looping_node incoming_node outgoing_node remains_node completed opens_in opens_of cat_opens children child_count label_of has union without one_set empty_set set_of
P-none-first = refl

pub P-one-first : (get_or (partly_done (stage_after 1 P)).list 0 unused_place).node ≡ 6
unfolding partly_done list_of_rows list_row filled waits_for size how_many stage_after eliminated_stages eliminated_stage start start_table holes_table rules_table rule_shape rule_rows final_states those ascending join_made join_made_from alt_made cat_made iter_made stand_in_made replaced_rows replaced_made looping_node incoming_node outgoing_node remains_node completed opens_in opens_of cat_opens children child_count label_of has union without one_set empty_set set_of
P-one-first = refl

pub P-both-first : (get_or (partly_done (stage_after 2 P)).list 0 unused_place).node ≡ 9
unfolding partly_done list_of_rows list_row filled waits_for size how_many stage_after eliminated_stages eliminated_stage start start_table holes_table rules_table rule_shape rule_rows final_states those ascending join_made join_made_from alt_made cat_made iter_made stand_in_made replaced_rows replaced_made looping_node incoming_node outgoing_node remains_node completed opens_in opens_of cat_opens children child_count label_of has union without one_set empty_set set_of
P-both-first = refl

-- the text that is printed for P

pub P-text : converted_listing P ≡ listing_p
unfolding converted_listing listing_p children child_count listing answer_line node_lines node_line head_fields plain_label label_number line spaced label_fields kind_name decimal decimal_in converted join_stage stage_after eliminated_stages eliminated_stage start start_table holes_table rules_table rule_shape rule_rows final_states those ascending join_made join_made_from alt_made cat_made iter_made stand_in_made replaced_rows replaced_made looping_node incoming_node outgoing_node remains_node completed opens_in opens_of cat_opens label_of has union without one_set empty_set set_of
P-text = refl
