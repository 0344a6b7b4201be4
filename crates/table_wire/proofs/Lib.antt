-- The laws of bytes read, of the count, and of the calls as the program makes them.
pub mod ByteLaws
pub mod CountLaws
pub mod CallLaws
