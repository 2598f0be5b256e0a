-- The 28 kinds of message: number, name and fields, in the order of docs/FORMAT.md. The names are CoSMed's.
use Rattle.std.specs.Prelude.{ℕ, List, [], ◌∷◌, Bool, true, false, cond, eqb}
use Rattle.std.proofs.Math.Option.{Option, some, none}
use Rattle.reader.specs.Fields.{FieldType, staff_number, post_number, password, picture, visibility, user_name, user_info, post_title, post_text, request_note}

pub data ActionName : Type 0 where
  start_sys : ActionName
  c_nu_req c_user c_post c_friend_req c_friend : ActionName
  d_friend : ActionName
  u_user u_title_post u_text_post u_img_post u_vis_post : ActionName
  r_user r_nu_req r_am_i_admin r_title_post r_text_post r_img_post r_vis_post r_owner_post r_friend_req_to_me r_friend_req_from_me : ActionName
  l_pending_u_reqs l_all_users l_all_posts l_friend_reqs l_friends l_friends_of : ActionName

pub record KindEntry : Type 0 where
  pub kind : ℕ
  pub action : ActionName
  pub fields : List FieldType

abbrev pub kind_entry : ℕ → ActionName → List FieldType → KindEntry
kind_entry k a fs = record { kind = k; action = a; fields = fs }

-- U sends: the first field is the sender's staff number
unfoldable pub kinds : List KindEntry
kinds =
    kind_entry 0x0101 start_sys (staff_number ∷ password ∷ [])
    ∷ kind_entry 0x0201 c_nu_req (staff_number ∷ request_note ∷ [])
    ∷ kind_entry 0x0202 c_user (staff_number ∷ password ∷ staff_number ∷ password ∷ [])
    ∷ kind_entry 0x0203 c_post (staff_number ∷ password ∷ post_number ∷ post_title ∷ [])
    ∷ kind_entry 0x0204 c_friend_req (staff_number ∷ password ∷ staff_number ∷ request_note ∷ [])
    ∷ kind_entry 0x0205 c_friend (staff_number ∷ password ∷ staff_number ∷ [])
    ∷ kind_entry 0x0301 d_friend (staff_number ∷ password ∷ staff_number ∷ [])
    ∷ kind_entry 0x0401 u_user (staff_number ∷ password ∷ password ∷ user_name ∷ user_info ∷ [])
    ∷ kind_entry 0x0402 u_title_post (staff_number ∷ password ∷ post_number ∷ post_title ∷ [])
    ∷ kind_entry 0x0403 u_text_post (staff_number ∷ password ∷ post_number ∷ post_text ∷ [])
    ∷ kind_entry 0x0404 u_img_post (staff_number ∷ password ∷ post_number ∷ picture ∷ [])
    ∷ kind_entry 0x0405 u_vis_post (staff_number ∷ password ∷ post_number ∷ visibility ∷ [])
    ∷ kind_entry 0x0501 r_user (staff_number ∷ password ∷ staff_number ∷ [])
    ∷ kind_entry 0x0502 r_nu_req (staff_number ∷ password ∷ staff_number ∷ [])
    ∷ kind_entry 0x0503 r_am_i_admin (staff_number ∷ password ∷ [])
    ∷ kind_entry 0x0504 r_title_post (staff_number ∷ password ∷ post_number ∷ [])
    ∷ kind_entry 0x0505 r_text_post (staff_number ∷ password ∷ post_number ∷ [])
    ∷ kind_entry 0x0506 r_img_post (staff_number ∷ password ∷ post_number ∷ [])
    ∷ kind_entry 0x0507 r_vis_post (staff_number ∷ password ∷ post_number ∷ [])
    ∷ kind_entry 0x0508 r_owner_post (staff_number ∷ password ∷ post_number ∷ [])
    ∷ kind_entry 0x0509 r_friend_req_to_me (staff_number ∷ password ∷ staff_number ∷ [])
    ∷ kind_entry 0x050a r_friend_req_from_me (staff_number ∷ password ∷ staff_number ∷ [])
    ∷ kind_entry 0x0601 l_pending_u_reqs (staff_number ∷ password ∷ [])
    ∷ kind_entry 0x0602 l_all_users (staff_number ∷ password ∷ [])
    ∷ kind_entry 0x0603 l_all_posts (staff_number ∷ password ∷ [])
    ∷ kind_entry 0x0604 l_friend_reqs (staff_number ∷ password ∷ [])
    ∷ kind_entry 0x0605 l_friends (staff_number ∷ password ∷ [])
    ∷ kind_entry 0x0606 l_friends_of (staff_number ∷ password ∷ staff_number ∷ [])
    ∷ []

-- the fields of a kind; an unknown kind has none
unfoldable pub fields_in : ℕ → List KindEntry → Option (List FieldType)
fields_in k [] = none
fields_in k (e ∷ es) = cond (eqb k e.kind) (some e.fields) (fields_in k es)

unfoldable pub kind_fields : ℕ → Option (List FieldType)
kind_fields k = fields_in k kinds

-- whether a number is that of a kind
abbrev pub is_known : Option (List FieldType) → Bool
is_known none = false
is_known (some fs) = true

unfoldable pub is_kind : ℕ → Bool
is_kind k = is_known (kind_fields k)
