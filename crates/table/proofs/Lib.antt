-- What an opening and a round come to over a list.
pub mod ListLaws
