-- What the search's answer comes to, and what is read off its reply.
pub mod ReplyLaws
pub mod TheoremsProof
